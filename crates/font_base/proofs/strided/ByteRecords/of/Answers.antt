use Rattle.std.proofs.Common.{◌≡◌, refl, ℕ, List, [], ◌∷◌, length, arith, length-drop, length-take-le}
use Rattle.std.proofs.Math.Nat.{mul-mod_left}
use Rattle.std.specs.Slice.Iter.{chunks_exact_remainder}
use Rattle.font_base.proofs.strided.ByteRecords.of.Goals as goal

none_left : (xs : List ℕ) → length xs ≡ 0 → xs ≡ []
none_left [] is = refl
none_left (x ∷ xs) is = absurd (omega (arith, is))

pub returns-clause-remainder : goal.returns-clause-remainder
returns-clause-remainder c =
    none_left (chunks_exact_remainder c.chunks_exact.result)
    (grind (arith, length-drop, length-take-le, mul-mod_left c.args.self.count c.args.self.size))
