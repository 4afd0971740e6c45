use Rattle.font_types.specs.{Fixed.fixed_bits, Tag.tag_bytes}
use Rattle.variations.specs.Evaluator.{IsSetTo}
use Rattle.variations.proofs.evaluator.value_of.Given as goal

abbrev pub invariant-loop-setting : goal.invariant-loop-setting
invariant-loop-setting l = IsSetTo l.settings (tag_bytes l.axis.axis_tag) (fixed_bits l.axis.default_value)
    l.setting-index (fixed_bits l.value)
