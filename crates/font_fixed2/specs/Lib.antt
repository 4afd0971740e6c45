pub use Rattle.font_fixed.specs.F4Dot12
pub use Rattle.font_fixed.specs.F6Dot10
pub use Rattle.font_fixed.specs.F2Dot30
