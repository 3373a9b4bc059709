pub mod Refusal
pub mod Record
pub mod Stream
pub mod Reader
pub mod State
pub mod Calls
pub mod Cuts
pub mod Inner
