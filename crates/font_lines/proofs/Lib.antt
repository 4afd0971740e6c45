pub mod WordByWord
pub mod Commands
pub mod Writes
pub mod Lines
pub mod Integers
pub mod InTurn
