use Rattle.std.proofs.{Common.◌^◌, Common.◌∙◌, Common.arith, lemmas.Int.Digits.digits_more, lemmas.Str.Parse.digit_at}
use Rattle.font_lines.proofs.WordByWord.{bounded_digit_more}
use Rattle.font_lines.proofs.numbers.magnitude_of_digits.Goals as goal

pub returns-then-not-is_ascii_digit : goal.returns-then-not-is_ascii_digit
returns-then-not-is_ascii_digit c = λ whole.
    let digit = digit_at c.args.digits.now c.loop-digit.digit-index whole.1 c.loop-digit-test.true in
    omega (arith, c.if-not-is_ascii_digit.ensures.cases)

pub loop-digit-preserved : goal.loop-digit-preserved
loop-digit-preserved c = record {
  number = c.min-number.ensures
      ∙ bounded_digit_more c.args.digits.now c.loop-digit.digit-index c.loop-digit.number c.from.result
      (2 ^ 40) c.loop-digit-test.true
      c.if-not-is_ascii_digit.ensures.cases c.loop-digit.invariant.number c.from.ensures;
  valid = digits_more 10 c.args.digits.now c.loop-digit.digit-index c.loop-digit-test.true
      c.loop-digit.invariant.valid c.if-not-is_ascii_digit.ensures.bound;
}
