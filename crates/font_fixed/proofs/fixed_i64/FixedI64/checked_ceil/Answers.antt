-- @generated from crates/font_fixed/proofs/fixed_i32/FixedI32/checked_ceil/Answers.antt by tools/erase
use Rattle.std.proofs.Common.{rules, refl, w64}
use Rattle.font_fixed.specs.FixedI64.{bits_of}
use Rattle.font_fixed.proofs.{Ceilings.rest_fits, Ceilings.ceiling_is, Ceilings.no_ceiling}
use Rattle.font_fixed.proofs.fixed_i64.FixedI64.checked_ceil.Goals as goal

pub overflow_sub-checked_add : goal.overflow_sub-checked_add
overflow_sub-checked_add g c = rest_fits w64 _ g.row.F refl (search rules)

pub returns-in-None-clause-variant : goal.returns-in-None-clause-variant
returns-in-None-clause-variant g c =
    let none = no_ceiling w64 _ g.row.F (bits_of c.args.self) refl (search rules) (search rules) in
    search (rules, none)

pub returns-in-Some-clause-variant : goal.returns-in-Some-clause-variant
returns-in-Some-clause-variant g c =
    let ceiling =
    ceiling_is w64 _ g.row.F (bits_of c.args.self) _ _ refl (search rules) (search rules) c.floor.ensures.floor in
    search (rules, ceiling.is)

pub returns-in-Some-clause-value : goal.returns-in-Some-clause-value
returns-in-Some-clause-value g c =
    ceiling_is w64 _ g.row.F (bits_of c.args.self) _ _ refl (search rules) (search rules) c.floor.ensures.floor
