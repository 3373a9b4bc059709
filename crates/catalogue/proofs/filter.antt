-- Laws of the filter of keys.
pub mod Laws
