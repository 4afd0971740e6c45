pub mod Tag
pub mod Version
pub mod LongDateTime
pub use Rattle.font_base.specs.Bytes
