-- The laws of sealed runs.
pub mod Laws
