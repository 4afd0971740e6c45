-- Matrices over a ring multiply as its elements do: products associate, and a product transforms a point as its factors
-- do in turn.
use Rattle.std.proofs.Common.{◌≡◌}
use Rattle.font_geom.specs.Matrix.{image_of, matrix_product}
use Rattle.font_geom.specs.{declared.matrix.Matrix.Matrix, declared.point.Point.Point, Ring.RingLaws}

module _ {T : Type 0} {zero one : T} {plus times : T → T → T} (ring : RingLaws zero one plus times) where
  -- with this, `simp` sorts the terms of a sum
  exchanged : (a b c : T) → plus a (plus b c) ≡ plus b (plus a c)
  exchanged a b c = cc (ring.sums_associate a b c, ring.sums_associate b a c, ring.sums_commute a b)

  pub matrix_product-matrix_product : (a b c : Matrix T) → matrix_product plus times (matrix_product plus times a b) c
      ≡ matrix_product plus times a (matrix_product plus times b c)
  matrix_product-matrix_product a b c = simp
      (ring.sum_times, ring.times_sum, ring.products_associate, ring.sums_associate, ring.sums_commute, exchanged)

  pub image_of-matrix_product : (a b : Matrix T) (p : Point T) → image_of plus times (matrix_product plus times a b) p
      ≡ image_of plus times a (image_of plus times b p)
  image_of-matrix_product a b p = simp
      (ring.sum_times, ring.times_sum, ring.products_associate, ring.sums_associate, ring.sums_commute, exchanged)
