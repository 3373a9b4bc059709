-- The laws stand below the name of the definitions.
pub mod digits
