-- @generated from crates/font_fixed/proofs/fixed_i32/FixedI32/from_decimal_bytes/Answers.antt by tools/erase
use Rattle.std.proofs.Common.{refl, lit≤, rules, w64}
use Rattle.font_fixed.proofs.Texts.{reads_by}
use Rattle.font_fixed.specs.FixedI64.{bits_of, of_bits}
use Rattle.font_fixed.proofs.fixed_i64.FixedI64.from_decimal_bytes.Goals as goal

pub returns-in-Ok : goal.returns-in-Ok
returns-in-Ok g c =
    reads_by w64 g.row.F bits_of of_bits c.args.text.now _ (λ _. refl) (lit≤ tt) (search rules)

pub returns-in-Err : goal.returns-in-Err
returns-in-Err g c =
    reads_by w64 g.row.F bits_of of_bits c.args.text.now _ (λ _. refl) (lit≤ tt) (search rules)
