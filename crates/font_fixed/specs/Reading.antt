-- Parsing a decimal as a value of a fixed-point type.
use Rattle.std.specs.Prelude.{◌≡◌, ◌↔◌, ℕ, ℤ, List, Result, Ok, Err, IfOk, FitsSigned}
use Rattle.std.specs.{Int.Width, Result.result_map_both}
use mir.Val.{bits}
use Rattle.font_decimal.specs.declared.reader.DecimalFault.TheVariants.{Syntax, OutOfRange}
use Rattle.font_decimal.specs.{Grammar.IsNoDecimal, Shortest.shortest_text, declared.reader.DecimalFault.DecimalFault}
use Rattle.font_fixed.specs.Operations.{ReadsBits, IsTooFar, ParsesBits}

-- The result of parsing: the nearest value of the type with width w and f fraction bits; `Syntax` if the text is not a
-- decimal; `OutOfRange` if its nearest value does not fit in the width. The printed text of a value parses as that
-- value.
pub record ParsesFixedPoint {T : Type 0} (w : Width) (f : ℕ) (bits_of : T → ℤ) (text : List ℕ)
    (result : Result T DecimalFault) : Type 0 where
  pub ok : (x : T) → (result ≡ Ok x) ↔ ReadsBits (bits w) f text (bits_of x)
  -- for proofs: forms of `ok`, and the printed text of a value
  pub reads : IfOk result (λ x. ReadsBits (bits w) f text (bits_of x))
  pub gives : ParsesBits (bits w) f text (result_map_both bits_of (λ fault. fault) result)
  pub printed : (x : T) → FitsSigned w (bits_of x) → text ≡ shortest_text (bits_of x) f → result ≡ Ok x
  -- the two errors
  pub out_of_range : (result ≡ Err OutOfRange) ↔ IsTooFar (bits w) f text
  pub syntax : (result ≡ Err Syntax) ↔ IsNoDecimal text
