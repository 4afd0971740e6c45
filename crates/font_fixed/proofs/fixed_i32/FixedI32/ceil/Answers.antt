use Rattle.std.proofs.Common.{rules, refl, lit<, w32}
use Rattle.font_fixed.proofs.Ceilings.{rest_fits, ceiling_wraps, ceiling_fits, ceiling_kept, ceiling_small}
use Rattle.font_fixed.proofs.fixed_i32.FixedI32.ceil.Goals as goal

pub overflow_sub-wrapping_add : goal.overflow_sub-wrapping_add
overflow_sub-wrapping_add g c = rest_fits w32 _ g.row.F refl (search rules)

pub returns-clause-ceiling : goal.returns-clause-ceiling
returns-clause-ceiling g c =
    ceiling_wraps w32 _ g.row.F _ _ _ refl (search rules) (search rules) c.floor.ensures.floor

pub returns-clause-value : goal.returns-clause-value
returns-clause-value g c = ceiling_fits 32 g.row.F _ _ (lit< tt)
    (ceiling_wraps w32 _ g.row.F _ _ _ refl (search rules) (search rules) c.floor.ensures.floor)

pub returns-clause-exact : goal.returns-clause-exact
returns-clause-exact g c =
    ceiling_kept w32 _ g.row.F _ _ _ refl (search rules) (search rules) c.floor.ensures.floor

pub returns-clause-small : goal.returns-clause-small
returns-clause-small g c =
    ceiling_small w32 _ g.row.F _ _ _ refl (search rules) (search rules) c.floor.ensures.floor
