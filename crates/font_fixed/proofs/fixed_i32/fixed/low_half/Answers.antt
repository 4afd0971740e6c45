use Rattle.std.proofs.Common.{◌≡◌, arith, ℤ, pos, negsuc, ◌%◌, unsigned_abs, w16, w32, SFits, of_z}
use Rattle.std.proofs.lemmas.Int.{ints, to_z-of_z}
use Rattle.std.proofs.lemmas.Nat.{and_mask}
use Rattle.std.specs.Int.{int_wrap, int_rem_euclid}
use Rattle.font_base.proofs.Widths.{int_wrap-wrap}
use Rattle.font_fixed.proofs.fixed_i32.fixed.low_half.Goals as goal

-- the low bits of the stored number are its remainder
low_bits_of : (n : ℤ) → SFits w32 n → of_z w32 n % 65536 ≡ unsigned_abs (int_rem_euclid n (pos 65536))
low_bits_of (pos k) fits = grind (arith, ints)
low_bits_of (negsuc k) fits = grind (arith, ints, fits)

pub returns : goal.returns
unfolding int_wrap
returns c = grind (
  arith,
  ints,
  to_z-of_z,
  and_mask c.cast_unsigned.result 16,
  low_bits_of c.args.n c.ranges.n,
  int_wrap-wrap w16 c.args.n,
)
