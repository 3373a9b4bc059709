pub mod BenchLaws
pub mod PremiseNeeded
