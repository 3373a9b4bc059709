-- Laws of a message, and of the Numbers among its lines.
pub mod Laws
pub mod Held
