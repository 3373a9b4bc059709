-- Laws of records.
pub mod Laws
