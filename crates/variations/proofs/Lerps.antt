-- The value on the line through two mappings, if nothing overflows.
use Rattle.std.proofs.Common.{◌≡◌, ◌≢◌, ◌∙◌, ap, lit<, ℤ, pos, ◌+ℤ◌, arith}
use Rattle.font_types.specs.Operations.{IsMulDiv}
use Rattle.font_types.specs.{Wrap.wrap, Wrap.FitsBits, Wrap.Laws.wrap-add_right, Fixed.fixed_bits, Fixed.Fixed}
use Rattle.font_types.proofs.Callers.{mul_div_is, wrap-fits}
use Rattle.variations.specs.declared.evaluator.AxisValueMap.{AxisValueMap}
use Rattle.variations.specs.Evaluator.{IsLerp, FitsLerp, lerp_part, lerp_whole, lerp_rise, on_line}

module _ (coordinate : Fixed) (start end : AxisValueMap) (result : Fixed) (share : ℤ)
    (some : lerp_whole start end ≢ pos 0)
    (is_share : IsMulDiv 32 (wrap 32 (lerp_rise start end)) (wrap 32 (lerp_part coordinate start))
    (wrap 32 (lerp_whole start end)) share)
    (is_sum : fixed_bits result ≡ wrap 32 (fixed_bits start.to_coordinate +ℤ share)) where
  fitting : (z : ℤ) → FitsBits 32 z → wrap 32 z ≡ z
  fitting z fits = wrap-fits 32 z (lit< tt) fits

  exact : FitsLerp coordinate start end → fixed_bits result ≡ on_line coordinate start end
  exact fits =
      let is = rw (fitting _ fits.rise, fitting _ fits.part, fitting _ fits.whole) at is_share in
      let value = mul_div_is (lerp_rise start end) (lerp_part coordinate start) _ share some is in
      is_sum ∙ ap (λ n. wrap 32 (fixed_bits start.to_coordinate +ℤ n)) value
      ∙ wrap-add_right 32 (fixed_bits start.to_coordinate) _ (lit< tt) ∙ fitting _ fits.value

  pub is_lerp : IsLerp coordinate start end result
  is_lerp = record { exact = exact; share = share; is_share = is_share; is_sum = is_sum }
