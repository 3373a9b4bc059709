-- Laws of calls one after the other.
pub mod Laws
pub mod Held
pub mod Sixty
