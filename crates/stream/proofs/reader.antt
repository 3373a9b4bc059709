-- Laws of one call.
pub mod Laws
pub mod Going
pub mod Gives
pub mod Flow
pub mod Events
