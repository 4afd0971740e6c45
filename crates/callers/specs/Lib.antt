pub mod Reader
pub mod Linter
pub mod Dumper
pub mod Start
pub mod Scaler
pub mod Words
pub mod Evaluator
