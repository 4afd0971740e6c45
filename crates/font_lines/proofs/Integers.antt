-- Integers, as the shortest decimals without fraction bits, and in two parts.
use Rattle.std.proofs.Common.{◌≡◌, ℕ, ◌/◌, ◌%◌, ◌+◌, ◌<◌, ◌≤◌, [], ◌∷◌, ◌++◌, ◌^◌, ℤ, pos, negsuc, arith, ap, ◌∙◌}
use Rattle.std.proofs.Common.{decimal, append-nil, append_assoc, unsigned_abs}
use Rattle.std.proofs.lemmas.Fmt.{decimal_digit, decimal_step}
use Rattle.std.specs.{Fmt.sign_text, Fmt.signed_decimal, Int.is_negative}
use Rattle.font_types.specs.Shortest.{shortest_text, fewest_places, nearest_numeral}

-- a sign and a magnitude are the integer
pub signed_is : (z : ℤ) → sign_text (is_negative z) ++ decimal (unsigned_abs z) ≡ signed_decimal z
signed_is (pos n) = grind arith
signed_is (negsuc n) = grind arith

-- without fraction bits, the nearest numeral is the number, and it has no places
pub shortest_integer : (z : ℤ) → shortest_text z 0 ≡ signed_decimal z
unfolding shortest_text fewest_places
shortest_integer z =
    let whole : nearest_numeral (unsigned_abs z) 0 0 / 1 ≡ unsigned_abs z = omega arith in
    rw (whole, append-nil) (signed_is z)

pub ruleset integers = (signed_is, shortest_integer, decimal_digit, decimal_step, append_assoc, append-nil)
