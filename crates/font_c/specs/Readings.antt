-- What a C program gets of parsing: a status, and a raw value stored in its memory. OpenType has no statuses.
use Rattle.std.specs.Prelude.{◌≡◌, ◌≢◌, ◌<◌, ℕ, zero, suc, ℤ, List, Result, Ok, Err}
use Rattle.std.specs.Int.{Width}
use Rattle.font_types.specs.DecimalFault.TheVariants.{Syntax, OutOfRange}
use Rattle.font_types.specs.{DecimalFault.DecimalFault, NumberReading.ParsesFixedPoint}

-- the result that a status and the place mean: 0 the value in the place, 1 not a decimal, and 2 out of range
abbrev pub result_of : {T : Type 0} → ℕ → T → Result T DecimalFault
result_of zero place = Ok place
result_of (suc zero) place = Err Syntax
result_of (suc (suc n)) place = Err OutOfRange

-- they are the result of parsing as a value of width w with f fraction bits; an error leaves the place unchanged
pub record ParsesInto (w : Width) (f : ℕ) (text : List ℕ) (status : ℕ) (old new : ℤ) : Type 0 where
  pub reading : ParsesFixedPoint w f (λ bits. bits) text (result_of status new)
  pub known : status < 3
  pub kept : status ≢ 0 → new ≡ old
