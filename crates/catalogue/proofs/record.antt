-- Laws of a record: its fields, and its key.
pub mod Laws
pub mod Keys
