-- Laws of bytes, and of memory that is written over.
pub mod Laws
pub mod Placed
