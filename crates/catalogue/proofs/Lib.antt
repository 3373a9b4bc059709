-- Theorems for the signer. Laws of one module stand below its name.
pub mod former
pub mod SaeTables
pub mod Accepted
pub mod Within
pub mod Reissue
