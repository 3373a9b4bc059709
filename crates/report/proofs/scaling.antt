-- Laws of scaling, and of the double of a fraction.
pub mod Laws
pub mod Finite
