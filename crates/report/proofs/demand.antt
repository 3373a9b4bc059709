-- Laws that carry demand 3.
pub mod Kept
pub mod Covered
