-- Values of the definitions, worked out by hand.
use Rattle.std.proofs.Common.{◌≡◌, refl, [], ◌∷◌, pos, neg_ℤ}
use Rattle.font_base.specs.{Wrap.wrap, Bytes.numeral, Bytes.bytes_of, Bytes.signed_numeral}

row-numeral : numeral (0xFF ∷ 0xAA ∷ 0xCC ∷ []) ≡ 16755404
row-numeral = refl

row-bytes_of : bytes_of 3 (neg_ℤ (pos 123456)) ≡ 0xFE ∷ 0x1D ∷ 0xC0 ∷ []
unfolding bytes_of
row-bytes_of = refl

row-signed_numeral : signed_numeral 3 (0x80 ∷ 0x00 ∷ 0x00 ∷ []) ≡ neg_ℤ (pos 8388608)
unfolding signed_numeral wrap
row-signed_numeral = refl

row-wrap : wrap 16 (pos 40000) ≡ neg_ℤ (pos 25536)
unfolding wrap
row-wrap = refl
