-- Laws of the answer.
pub mod Laws
pub mod Sizes
