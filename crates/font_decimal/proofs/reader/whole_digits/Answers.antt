use Rattle.std.proofs.{Common.arith, lemmas.Int.Digits.digits_more}
use Rattle.font_decimal.proofs.Digits.{one_digit_more}
use Rattle.font_decimal.proofs.reader.whole_digits.Goals as goal
use Rattle.font_decimal.proofs.reader.whole_digits.Goals.{then-more-too_large, else-more-too_large}

pub loop-place-preserved : goal.loop-place-preserved
loop-place-preserved c = elim c.if-more-too_large.branch [
  | then-more-too_large w ↦ grind (arith, one_digit_more, digits_more)
  | else-more-too_large w ↦ grind (arith, one_digit_more, digits_more)
]
