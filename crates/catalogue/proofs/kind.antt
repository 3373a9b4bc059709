-- Laws of kinds.
pub mod Laws
