-- Laws of layouts.
pub mod Prns
pub mod Used
