pub mod Widths
pub mod StdBytes
pub mod ScalarCalls
mod ThreeBytes
mod Rows
pub mod Elements
mod Chunks
mod Searched
pub mod Moved
