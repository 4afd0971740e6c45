pub mod Advances
pub mod Evaluator
pub mod Variations
