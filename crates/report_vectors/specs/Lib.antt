pub mod BenchCases
pub mod Premise
