-- Laws of spots.
pub mod Laws
