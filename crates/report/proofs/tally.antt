-- Laws of a tally.
pub mod Laws
