-- Laws of a group.
pub mod Laws
