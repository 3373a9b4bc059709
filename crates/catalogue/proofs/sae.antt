-- Laws of the SAE tables.
pub mod Laws
