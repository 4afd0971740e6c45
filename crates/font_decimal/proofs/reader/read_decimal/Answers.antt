use Rattle.std.proofs.Common.{ℤ, Ok, Err, Result, w64, FitsSigned, to_z-of_z}
use Rattle.font_decimal.specs.declared.reader.DecimalFault.TheVariants.{Syntax, OutOfRange}
use Rattle.font_decimal.specs.{Reading.Parses, declared.reader.DecimalFault.DecimalFault}
use Rattle.font_decimal.proofs.Readings.{answers_as}
use Rattle.font_decimal.proofs.reader.read_decimal.Goals as goal

pub returns : goal.returns
returns c =
    let text = c.args.text.now in
    let min_fits : FitsSigned w64 c.args.min = c.ranges.min in
    let max_fits : FitsSigned w64 c.args.max = c.ranges.max in
    let result = c.read_decimal_bytes.result in
    let reading : Parses text c.args.f c.args.min c.args.max result =
    rw c.as_bytes.ensures.value at (simp to_z-of_z at c.read_decimal_bytes.ensures) in
    let tells = λ (r : Result ℤ DecimalFault). answers_as text c.args.f c.args.min c.args.max result r reading in
    record {
      ok = λ b. tells (Ok b);
      reading = reading;
      out_of_range = tells (Err OutOfRange);
      syntax = tells (Err Syntax);
    }
