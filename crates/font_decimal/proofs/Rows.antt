-- Values of the definitions, worked out by hand.
use Rattle.std.proofs.Common.{◌≡◌, refl, pos, neg_ℤ}
use Rattle.font_decimal.specs.Near.{near, up}
use Rattle.font_decimal.specs.Shortest.{fewest_places, nearest_numeral, reads_back}

-- a tie goes away from zero by one rule, and upwards by the other
row-near : near (neg_ℤ (pos 3)) 2 ≡ neg_ℤ (pos 2)
unfolding near
row-near = refl

row-up : up (neg_ℤ (pos 3)) 2 ≡ neg_ℤ (pos 1)
unfolding up
row-up = refl

-- 9830 / 2^14 is 0.5999..., and one place is enough: 0.6 reads back as it
row-fewest_places : fewest_places 9830 14 ≡ 1
unfolding fewest_places reads_back
row-fewest_places = refl

row-nearest_numeral : nearest_numeral 9830 14 1 ≡ 6
row-nearest_numeral = refl
