pub mod Texts
mod Sums
mod DeltaSets
