-- Laws of rows.
pub mod Laws
