-- Laws of the bits of an item.
pub mod Laws
