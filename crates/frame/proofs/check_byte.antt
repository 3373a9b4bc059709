-- Laws of the register and the check byte.
pub mod Laws
