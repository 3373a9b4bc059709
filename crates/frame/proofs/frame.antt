-- Laws of a frame and its parts, on any bus; of J1850's, written and read, read and written.
pub mod Laws
pub mod Written
pub mod Again
