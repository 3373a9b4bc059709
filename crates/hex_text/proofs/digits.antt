-- Laws of digits, of the text of bytes, and of a list put into a buffer.
pub mod Laws
pub mod Text
pub mod Put
