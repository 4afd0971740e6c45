pub mod Near
pub mod Grammar
pub mod Reading
pub mod Shortest
pub mod Padding
pub mod Shown
