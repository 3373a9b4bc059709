-- Laws of the layout as it was.
pub mod Laws
