pub mod RingMatrices
pub mod Elements
pub mod Bounds
pub mod RingCalls
pub mod FixedCalls
pub mod Scaled
