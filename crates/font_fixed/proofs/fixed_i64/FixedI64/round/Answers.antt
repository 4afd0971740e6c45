-- @generated from crates/font_fixed/proofs/fixed_i32/FixedI32/round/Answers.antt by tools/erase
use Rattle.std.proofs.Common.{rules, refl, w64}
use Rattle.font_fixed.proofs.Rounds.{whole_is, nearest_kept, nearest_small}
use Rattle.font_fixed.proofs.fixed_i64.FixedI64.round.Goals as goal

pub returns-clause-nearest : goal.returns-clause-nearest
returns-clause-nearest g c =
    whole_is w64 _ g.row.F _ _ _ refl (search rules) (search rules) (search rules) c.floor.ensures.floor

pub returns-clause-exact : goal.returns-clause-exact
returns-clause-exact g c =
    nearest_kept w64 _ g.row.F _ _ _ refl (search rules) (search rules) (search rules) c.floor.ensures.floor

pub returns-clause-small : goal.returns-clause-small
returns-clause-small g c =
    nearest_small w64 _ g.row.F _ _ _ refl (search rules) (search rules) (search rules) c.floor.ensures.floor
