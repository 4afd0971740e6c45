-- A sum of deltas, added to an integer and rounded half up.
use Rattle.std.proofs.Common.{◌≡◌, sym, ◌^◌, ◌≤◌, ℤ, pos, ◌+ℤ◌, ◌*ℤ◌, lit<, arith, unsigned_abs, SFits, w64}
use Rattle.std.proofs.lemmas.Int.{ints}
use Rattle.font_decimal.specs.Near.{up}
use Rattle.font_decimal.proofs.Near.{up_is, up_gives}

-- an integer may be added after rounding
pub integer_added : (n d : ℤ) → up (n *ℤ pos 65536 +ℤ d) 65536 ≡ (n +ℤ up d 65536)
integer_added n d =
    let it = up_is d 65536 (lit< tt) in
    let low = it.low in
    let high = it.high in
    sym (up_gives (n *ℤ pos 65536 +ℤ d) 65536 (n +ℤ up d 65536) (lit< tt) (record {
      low = omega (arith, ints, low);
      high = omega (arith, ints, high);
    }))

-- 64 raw bits of 48.16 are less than 2^47 integers
pub few_integers : (d : ℤ) → SFits w64 d → unsigned_abs (up d 65536) ≤ 2 ^ 47
few_integers d fits = grind (arith, up_is d 65536 (lit< tt))
