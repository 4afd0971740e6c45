pub mod Integers
pub mod Near
pub mod Texts
pub mod Readings
pub mod Order
pub mod Padded
pub mod Printed
pub mod Again
pub mod Buffer
mod Digits
mod Rounding
mod Parts
mod Fewest
mod Remainder
mod Units
mod Rows
