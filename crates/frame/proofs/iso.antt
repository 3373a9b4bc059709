-- Laws of the messages of ISO 9141-2.
pub mod Laws
