-- What is proved of the definitions for who relies on them; the laws of each module stand below its name.
pub mod Packed
pub mod Given
pub mod Cuts
pub mod calls
