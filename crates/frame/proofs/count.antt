-- Laws of the count, and of the rules around it.
pub mod Laws
pub mod Around
