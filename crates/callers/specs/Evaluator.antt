-- Settings of the axes of a font.
use Rattle.std.specs.Prelude.{◌≡◌, ℕ, List, Option}
use Rattle.variations.specs.Evaluator.{fvar_axis_count, HaveCoordinates, AreOfAxes}
use Rattle.variations.specs.declared.evaluator.Setting.{Setting}

-- there is a place for each axis, each axis has a coordinate, and each setting is of an axis
abbrev pub AreAccepted : List ℕ → Option (List ℕ) → List Setting → ℕ → Type 0
AreAccepted fvar avar settings places =
    (places ≡ fvar_axis_count fvar) × HaveCoordinates fvar avar × AreOfAxes fvar settings
