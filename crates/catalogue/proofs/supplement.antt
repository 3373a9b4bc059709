-- Laws of a supplement: its records, the search, keys that are distinct, and the test.
pub mod Laws
pub mod Distinct
pub mod Check
pub mod Faults
pub mod Passed
pub mod Seek
