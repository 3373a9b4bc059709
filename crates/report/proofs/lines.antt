-- Laws of lines.
pub mod Laws
