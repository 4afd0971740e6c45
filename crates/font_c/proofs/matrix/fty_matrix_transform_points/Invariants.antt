use Rattle.std.proofs.Common.{◌≡◌, ◌<◌, ◌≤◌, ℕ, length}
use Rattle.font_c.specs.Matrices.{coordinates, entries, fixed_image, point_at}
use Rattle.font_c.proofs.matrix.fty_matrix_transform_points.Given as goal

abbrev pub invariant-loop-p : goal.invariant-loop-p
invariant-loop-p l =
    (length l.points ≡ length l.fn.points)
    × ((k : ℕ) → k < l.p-index
    → coordinates (point_at l.points k) ≡ fixed_image (entries l.m) (coordinates (point_at l.fn.points k)))
    × ((k : ℕ) → l.p-index ≤ k → point_at l.points k ≡ point_at l.fn.points k)
