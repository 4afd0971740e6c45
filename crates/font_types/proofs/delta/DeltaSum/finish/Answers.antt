use Rattle.std.proofs.Common.{◌∙◌, ◌^◌, refl, rules, w64}
use Rattle.std.specs.Int.{w128}
use Rattle.font_fixed.proofs.Narrowing.{shifts-wrap}
use Rattle.font_types.proofs.delta.DeltaSum.finish.Goals as goal

pub returns : goal.returns
returns c =
    c.from_bits.ensures ∙ shifts-wrap w128 w64 _ (2 ^ 64) c.args.self.steps refl refl (search rules) (search rules)
