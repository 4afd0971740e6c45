-- The coordinates of the first axes: one more.
use Rattle.std.proofs.Common.{◌≡◌, ◌≢◌, ℕ, ◌+◌, ◌<◌, List, Option, length, set, get_or, arith, below_more}
use Rattle.std.proofs.Common.{get_or-set_other, get_or-set_same}
use Rattle.font_types.specs.{F2Dot14.F2Dot14}
use Rattle.variations.specs.declared.evaluator.Setting.{Setting}
use Rattle.variations.specs.Evaluator.{AreCoordinates, IsCoordinateOf}

module _ (fvar : List ℕ) (avar : Option (List ℕ)) (settings : List Setting) where
  pub one_more_coordinate : (coordinates : List F2Dot14) (n m : ℕ) (stored : F2Dot14) → m ≡ n
      → n < length coordinates → AreCoordinates fvar avar settings n coordinates
      → IsCoordinateOf fvar avar settings n stored
      → AreCoordinates fvar avar settings (n + 1) (set coordinates m stored)
  one_more_coordinate coordinates n m stored is within so_far here = rw is (
      below_more (λ axis. (d : F2Dot14)
      → IsCoordinateOf fvar avar settings axis (get_or (set coordinates n stored) axis d)) n
      (λ k before d. let other : k ≢ n = omega (arith, before) in rw get_or-set_other (so_far k before d))
      (λ d. rw get_or-set_same here)
      )
