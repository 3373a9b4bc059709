-- Laws of the lookups.
pub mod Laws
