-- What is proved of the definitions for who relies on them; the laws of each module stand below its name.
pub mod RoundTrip
pub mod IsoRoundTrip
pub mod SameReading
pub mod OneByte
pub mod Counts
pub mod Sentences
