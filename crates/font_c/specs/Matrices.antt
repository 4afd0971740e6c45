-- Matrices and points of C, by their raw values.
use Rattle.std.specs.Prelude.{◌≡◌, ◌<◌, ℕ, ℤ, pos, List, length, slice_index_or}
use Rattle.font_types.specs.FixedMatrix.{wrapped_sum, wrapped_product}
use Rattle.font_types.specs.{matrix.Matrix.Matrix, point.Point.Point, Matrix.image_of, Matrix.matrix_product}
use Rattle.font_c.specs.{declared.matrix.FontMatrix.FontMatrix, declared.matrix.FontPoint.FontPoint}

-- the matrix of raw values with the elements of a matrix of C
abbrev pub entries : FontMatrix → Matrix ℤ
entries m = record { xx = m.xx; yx = m.yx; xy = m.xy; yy = m.yy; dx = m.dx; dy = m.dy }

-- the point of raw values with the coordinates of a point of C
abbrev pub coordinates : FontPoint → Point ℤ
coordinates p = record { x = p.x; y = p.y }

-- the product a * b, which applies b first, then a: products of elements are rounded and wrapped, sums wrapped
abbrev pub fixed_matrix_product : Matrix ℤ → Matrix ℤ → Matrix ℤ
fixed_matrix_product a b = matrix_product wrapped_sum wrapped_product a b

-- the image of a point under m: products of elements are rounded and wrapped, sums wrapped
abbrev pub fixed_image : Matrix ℤ → Point ℤ → Point ℤ
fixed_image m p = image_of wrapped_sum wrapped_product m p

-- the matrix without its translation
abbrev pub linear_part : Matrix ℤ → Matrix ℤ
linear_part m = record { xx = m.xx; yx = m.yx; xy = m.xy; yy = m.yy; dx = pos 0; dy = pos 0 }

-- the point at an index
abbrev pub point_at : List FontPoint → ℕ → FontPoint
point_at points k = slice_index_or points k (record { x = pos 0; y = pos 0 })

-- each of the new points is the image of the old one under m
pub record TransformsEach (m : Matrix ℤ) (old new : List FontPoint) : Type 0 where
  pub as_many : length new ≡ length old
  pub image : (k : ℕ) → k < length old → coordinates (point_at new k) ≡ fixed_image m (coordinates (point_at old k))
