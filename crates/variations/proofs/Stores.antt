-- Products along axes and sums of columns: none, and one more; and how far they are off the exact ones.
use Rattle.std.proofs.Common.{◌≡◌, refl, lit<, ℕ, zero, suc, ◌+◌, ◌*◌, ℤ, pos, add-one, List, ◌+ℤ◌, ◌*ℤ◌, unsigned_abs}
use Rattle.std.proofs.Common.{arith, ◌≤◌, ◌<◌, ◌^◌, ◌≤ℤ◌, length, take, get_or}
use Rattle.std.proofs.Math.Nat.{mul-add, zero-add}
use Rattle.std.proofs.{lemmas.Int.ints, lemmas.Grind.common_steps, lemmas.List.get_or-take}
use Rattle.font_types.specs.{F2Dot14.F2Dot14, Fixed.fixed_bits, Fixed.Fixed, Wrap.FitsBits}
use Rattle.variations.specs.Variations.{IsScalarOf, IsScalarAfterAxis, IsNearScalar, exact_scalar, IsOffBy, times}
use Rattle.variations.specs.Variations.{whole, IsSumThrough, IsTerm, IsTermProduct, IsSetSum, IsNearSetSum, exact_delta}
use Rattle.variations.specs.Variations.{sum_halves, sum_of_magnitudes, region_bytes, region_index, region_index_count}
use Rattle.variations.specs.Variations.{axis_count, delta_of, moved, exact_region_scalar, HasRegion, region_offset}
use Rattle.variations.specs.Variations.{delta_place, column_place, AreScalars, IsRegionScalar, HasRow, HasDelta}
use Rattle.variations.specs.Variations.{word_delta_count, IsNearAdvance}
use Rattle.variations.proofs.Scalars.{scalar_is, scalar_at, stored_rules}
use Rattle.variations.proofs.Fractions.{IsPartOff, off_by, one_off, next_axis_off, plus_off, scaled_off, whole_off}
use Rattle.variations.proofs.Fractions.{rounded_off}

pub no_axis : (region : List ℕ) (coordinates : List F2Dot14) → IsScalarOf region coordinates 0 (pos 65536)
unfolding IsScalarOf
no_axis region coordinates = refl

pub one_more_axis : (region : List ℕ) (coordinates : List F2Dot14) (n : ℕ) (before scalar : ℤ)
    → IsScalarOf region coordinates n before → IsScalarAfterAxis region coordinates n before scalar
    → IsScalarOf region coordinates (n + 1) scalar
unfolding IsScalarOf
one_more_axis region coordinates n before scalar so_far next = rw (add-one n) (before, so_far, next)

-- ---- how far a scalar is off the exact one

scalar_off : (region : List ℕ) (coordinates : List F2Dot14) (n : ℕ) (scalar : ℤ)
    → IsScalarOf region coordinates n scalar → IsPartOff n scalar (exact_scalar region coordinates n)
unfolding IsScalarOf exact_scalar
scalar_off region coordinates zero scalar is = rw is one_off
scalar_off region coordinates (suc n) scalar (before, so_far, next) =
    rw (← add-one n) (next_axis_off n before _ (scalar_off region coordinates n before so_far) _ _ _ _ scalar next)

pub scalar_is_near : (region : List ℕ) (coordinates : List F2Dot14) (n : ℕ) (scalar : ℤ)
    → IsScalarOf region coordinates n scalar → IsNearScalar region coordinates n scalar
scalar_is_near region coordinates n scalar is = off_by _ _ _ (scalar_off region coordinates n scalar is)

pub ruleset scalar_rules = (no_axis, one_more_axis, scalar_is_near)

pub no_column : (regions subtable : List ℕ) (coordinates : List F2Dot14) (set : ℕ)
    → IsSumThrough regions subtable coordinates set 0 (pos 0)
unfolding IsSumThrough
no_column regions subtable coordinates set = refl

pub one_more_column : (regions subtable : List ℕ) (coordinates : List F2Dot14) (set n : ℕ) (before product sum : ℤ)
    → IsSumThrough regions subtable coordinates set n before → IsTermProduct regions subtable coordinates set n product
    → sum ≡ (before +ℤ product) → IsSumThrough regions subtable coordinates set (n + 1) sum
unfolding IsSumThrough
one_more_column regions subtable coordinates set n before product sum so_far next is_sum =
    rw (add-one n) (before, product, so_far, next, is_sum)

-- the sum and one more product, which 64 bits hold
pub term_fits : (n : ℕ) (sum s delta : ℤ) → n < 65535 → unsigned_abs sum ≤ n * 2 ^ 47 → pos 0 ≤ℤ s → s ≤ℤ pos 65536
    → unsigned_abs delta ≤ 2 ^ 31 → FitsBits 64 (sum +ℤ (s *ℤ delta))
term_fits n sum s delta few small from to narrow = grind (arith, common_steps)

pub term_small : (n : ℕ) (sum s delta : ℤ) → n < 65535 → unsigned_abs sum ≤ n * 2 ^ 47 → pos 0 ≤ℤ s → s ≤ℤ pos 65536
    → unsigned_abs delta ≤ 2 ^ 31 → unsigned_abs (sum +ℤ (s *ℤ delta)) ≤ (n + 1) * 2 ^ 47
term_small n sum s delta few small from to narrow = grind (arith, common_steps)

pub one_more_term : (regions subtable : List ℕ) (coordinates : List F2Dot14) (set n : ℕ) (before : ℤ)
    (scalar : Fixed) (delta : ℤ) → IsSumThrough regions subtable coordinates set n before
    → IsTerm regions subtable coordinates set n (scalar, delta)
    → IsSumThrough regions subtable coordinates set (n + 1) (before +ℤ (fixed_bits scalar *ℤ delta))
one_more_term regions subtable coordinates set n before scalar delta so_far term =
    one_more_column regions subtable coordinates set n before (fixed_bits scalar *ℤ delta) _ so_far
    (record { term = (scalar, delta); is_term = term; value = refl }) refl

-- ---- how far a sum of a set is off the exact one, and an advance that it moves

product_off : (regions subtable : List ℕ) (coordinates : List F2Dot14) (set n : ℕ) (product : ℤ)
    → IsTermProduct regions subtable coordinates set n product
    → IsOffBy (axis_count regions * unsigned_abs (delta_of subtable set n)) product
    (times (exact_region_scalar regions (region_index subtable n) coordinates) (whole (delta_of subtable set n)))
product_off regions subtable coordinates set n product is =
    rw (is.value, is.is_term.delta) (scaled_off (axis_count regions) (fixed_bits is.term.0) (delta_of subtable set n) _
    (scalar_off (region_bytes regions (region_index subtable n)) coordinates (axis_count regions) _ is.is_term.scalar))

sum_off : (regions subtable : List ℕ) (coordinates : List F2Dot14) (set n : ℕ) (sum : ℤ)
    → IsSumThrough regions subtable coordinates set n sum
    → IsOffBy (sum_halves regions subtable set n) sum (exact_delta regions subtable coordinates set n)
unfolding IsSumThrough exact_delta sum_of_magnitudes
sum_off regions subtable coordinates set zero sum is = rw is (record { some = lit< tt; close = omega (arith, ints) })
sum_off regions subtable coordinates set (suc n) sum (before, product, so_far, next, is_sum) =
    let parts = mul-add (axis_count regions) (sum_of_magnitudes subtable set n)
    (unsigned_abs (delta_of subtable set n)) in
    rw (is_sum, parts) (plus_off _ _ before product _ _
    (sum_off regions subtable coordinates set n before so_far)
    (product_off regions subtable coordinates set n product next))

pub set_sum_is_near : (regions subtable : List ℕ) (coordinates : List F2Dot14) (set : ℕ) (sum : ℤ)
    → IsSetSum regions subtable coordinates set sum → IsNearSetSum regions subtable coordinates set sum
set_sum_is_near regions subtable coordinates set sum is =
    sum_off regions subtable coordinates set (region_index_count subtable) sum is

pub advance_is_near : (regions subtable : List ℕ) (coordinates : List F2Dot14) (set advance : ℕ) (sum varied : ℤ)
    → IsSetSum regions subtable coordinates set sum → varied ≡ moved advance sum
    → IsNearAdvance regions subtable coordinates set advance varied
advance_is_near regions subtable coordinates set advance sum varied is_sum is =
    let halves = sum_halves regions subtable set (region_index_count subtable) in
    let off = plus_off 0 halves _ sum _ _ (whole_off (pos advance))
    (set_sum_is_near regions subtable coordinates set sum is_sum) in
    rw is (rw (zero-add halves) at (rounded_off _ _ _ off))

pub ruleset sum_rules = (no_column, one_more_term, term_fits, term_small)

-- ---- regions before a region, and rows

region_before : (axes r k : ℕ) → k ≤ r → region_offset axes k ≤ region_offset axes r
region_before axes r k low = grind (arith, common_steps)

pub region_at_most : (regions : List ℕ) (r k : ℕ) → k ≤ r → HasRegion regions r → HasRegion regions k
region_at_most regions r k low has =
    let before = region_before (axis_count regions) r k low in
    record { count = has.count; within = omega (arith, low, has.within); bytes = omega (arith, before, has.bytes) }

below_last : (regions : List ℕ) (r n : ℕ) → HasRegion regions r → ¬ HasRegion regions n → r < n
below_last regions r n has last =
    let no : ¬ (n ≤ r) = λ low. last (region_at_most regions r n low has) in
    omega (arith, no)

pub are_scalars : (regions : List ℕ) (coordinates : List F2Dot14) (n m : ℕ) (scalars : List Fixed) → m ≡ n
    → n ≤ length scalars
    → ((k : ℕ) (d : Fixed) → k < n → IsRegionScalar regions k coordinates (fixed_bits (get_or scalars k d)))
    → ((k : ℕ) → k < n → HasRegion regions k)
    → ((k : ℕ) (d : Fixed) → k < n → pos 0 ≤ℤ fixed_bits (get_or scalars k d))
    → ((k : ℕ) (d : Fixed) → k < n → fixed_bits (get_or scalars k d) ≤ℤ pos 65536)
    → ¬ HasRegion regions n → AreScalars regions coordinates (take m scalars)
are_scalars regions coordinates n m scalars is room each there low high last =
    let len : length (take n scalars) ≡ n = grind (arith, common_steps, room) in
    let short : (r : ℕ) → r < length (take n scalars) → r < n = λ r within. omega (arith, len, within) in
    rw is (record {
      each = λ r d within. rw (get_or-take n scalars r d (short r within)) (scalar_is (region_bytes regions r)
          coordinates (axis_count regions) _ (each r d (short r within)));
      are_there = λ r within. there r (short r within);
      all = λ r has. omega (arith, len, below_last regions r n has last);
      low = λ r d within. rw (get_or-take n scalars r d (short r within)) (low r d (short r within));
      high = λ r d within. rw (get_or-take n scalars r d (short r within)) (high r d (short r within));
    })

pub place_in_row : (words count set column : ℕ)
    → delta_place words count set column ≡ delta_place words count set 0 + column_place words column
place_in_row words count set column = grind (arith, common_steps)

pub row_of_delta : (subtable : List ℕ) (set column : ℕ) → HasDelta subtable set column → HasRow subtable set
row_of_delta subtable set column has =
    let place = place_in_row (word_delta_count subtable) (region_index_count subtable) set column in
    record {
      header = omega (arith, has.bytes);
      wide = has.wide;
      is_set = has.is_set;
      bytes = omega (arith, place, has.bytes);
    }

pub ruleset row_rules = (region_at_most, place_in_row, row_of_delta, scalar_at)

pub ruleset region_rules = (stored_rules, scalar_is_near)
