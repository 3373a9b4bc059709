-- Laws of a row, and of rows that are equal.
pub mod Laws
pub mod Equal
