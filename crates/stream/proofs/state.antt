-- Laws of states.
pub mod Laws
pub mod Bytes
pub mod Back
