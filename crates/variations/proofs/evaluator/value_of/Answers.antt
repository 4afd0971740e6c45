-- One more setting.
use Rattle.std.proofs.Common.{rules, pos, []}
use Rattle.font_types.proofs.Callers.{calls}
use Rattle.variations.specs.declared.evaluator.Setting.{Setting}
use Rattle.variations.proofs.Settings.{own_setting, other_setting}
use Rattle.variations.proofs.evaluator.value_of.Goals.{then-eq, else-eq}
use Rattle.variations.proofs.evaluator.value_of.Goals as goal

abbrev none : Setting
none = record { axis = record { 0 = [] }; value = record { 0 = pos 0 } }

pub loop-setting-preserved : goal.loop-setting-preserved
loop-setting-preserved c =
    let n = c.loop-setting.setting-index in
    elim c.if-eq.branch [
      | then-eq w ↦ rw w.value-is
          (own_setting _ _ _ n _ none (search (rules, calls)) (search (rules, calls)) (search (rules, calls)))
      | else-eq w ↦ rw w.value-is
          (other_setting _ _ _ n _ none (search (rules, calls)) c.loop-setting.invariant (search (rules, calls)))
    ]
