-- Axis-aligned bounding boxes.
pub mod Laws
use Rattle.std.specs.Prelude.{◌≡◌, Bool, IsTrue, ◌&&◌, ◌⊎◌, if◌then◌else◌}
use Rattle.font_geom.specs.declared.bbox.BoundingBox.{BoundingBox}

-- each coordinate may be multiplied by the factor
pub record CanScale {T : Type 0} (can_multiply : T → T → Type 0) (box : BoundingBox T) (factor : T) : Type 0 where
  pub x_min : can_multiply box.x_min factor
  pub y_min : can_multiply box.y_min factor
  pub x_max : can_multiply box.x_max factor
  pub y_max : can_multiply box.y_max factor

-- each coordinate of `scaled` is the product of the coordinate and the factor
pub record IsScaled {T : Type 0} (product : T → T → T → Type 0) (box : BoundingBox T) (factor : T)
    (scaled : BoundingBox T) : Type 0 where
  pub x_min : product box.x_min factor scaled.x_min
  pub y_min : product box.y_min factor scaled.y_min
  pub x_max : product box.x_max factor scaled.x_max
  pub y_max : product box.y_max factor scaled.y_max

-- `le` is true for both pairs
abbrev pub is_normalized : {T : Type 0} → (T → T → Bool) → BoundingBox T → Bool
is_normalized le box = le box.x_min box.x_max && le box.y_min box.y_max

-- each pair is swapped unless `le` is true for it
abbrev pub normalized_box : {T : Type 0} → (T → T → Bool) → BoundingBox T → BoundingBox T
normalized_box le box = record {
  x_min = if le box.x_min box.x_max then box.x_min else box.x_max;
  y_min = if le box.y_min box.y_max then box.y_min else box.y_max;
  x_max = if le box.x_min box.x_max then box.x_max else box.x_min;
  y_max = if le box.y_min box.y_max then box.y_max else box.y_min;
}

-- a and b are c and d, in either order
abbrev pub IsSamePair : {T : Type 0} → T → T → T → T → Type 0
IsSamePair a b c d = ((a ≡ c) × (b ≡ d)) ⊎ ((a ≡ d) × (b ≡ c))

-- both pairs have the same values as before
pub record HasSamePairs {T : Type 0} (old new : BoundingBox T) : Type 0 where
  pub on_x : IsSamePair new.x_min new.x_max old.x_min old.x_max
  pub on_y : IsSamePair new.y_min new.y_max old.y_min old.y_max

-- `le` is true for a and b, in either order
abbrev pub ComparesPair : {T : Type 0} → (T → T → Bool) → T → T → Type 0
ComparesPair le a b = IsTrue (le a b) ⊎ IsTrue (le b a)

-- both pairs compare
pub record Compares {T : Type 0} (le : T → T → Bool) (box : BoundingBox T) : Type 0 where
  pub on_x : ComparesPair le box.x_min box.x_max
  pub on_y : ComparesPair le box.y_min box.y_max
