-- @generated from crates/font_fixed/proofs/fixed_i32/FixedI32/checked_round/Answers.antt by tools/erase
use Rattle.std.proofs.Common.{rules, w64}
use Rattle.font_fixed.specs.FixedI64.{bits_of}
use Rattle.font_fixed.proofs.Rounds.{rounded_bounds}
use Rattle.font_fixed.proofs.fixed_i64.FixedI64.checked_round.Goals as goal

pub returns-in-Some-clause-exact : goal.returns-in-Some-clause-exact
returns-in-Some-clause-exact g c =
    rounded_bounds w64 g.row.F (bits_of c.args.self) c.in-Some.bits (search rules) (search rules) (search rules)
