-- Laws of the searches.
pub mod Laws
