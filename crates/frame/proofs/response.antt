-- Laws of the response.
pub mod Laws
