pub mod StreamCases
