use Rattle.font_fixed.specs.Fixed.{fixed_bits}
use Rattle.font_types.proofs.SumCalls.{scaled_sums_close}
use Rattle.font_types.proofs.laws.scaled_in_parts.Goals as goal

pub returns : goal.returns
returns c = record {
  first = c.scaled_sum.ensures;
  second = rw c.plain_sum.ensures at c.mul_div.ensures;
  close = λ some fits_r fits_sum fits_s. scaled_sums_close (fixed_bits c.args.a) (fixed_bits c.args.c)
      c.args.numbers.now _ _ _ some c.scaled_sum.ensures c.plain_sum.ensures c.mul_div.ensures fits_r fits_sum
      fits_s;
}
