-- The laws that the proofs of the calls share.
pub mod Small
