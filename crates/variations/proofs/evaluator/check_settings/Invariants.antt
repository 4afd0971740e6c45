use Rattle.std.specs.List.{AllWithin}
use Rattle.variations.specs.Evaluator.{IsOfAxis}
use Rattle.variations.proofs.evaluator.check_settings.Given as goal

abbrev pub invariant-loop-setting : goal.invariant-loop-setting
invariant-loop-setting l = AllWithin (IsOfAxis l.fvar.bytes.now) l.settings 0 l.setting-index
