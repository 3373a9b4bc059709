-- Laws of an item's line.
pub mod Laws
