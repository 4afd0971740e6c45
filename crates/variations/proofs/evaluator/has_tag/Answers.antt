-- One more axis, and all of them.
use Rattle.std.proofs.Common.{rules, below_more, ◌≢◌}
use Rattle.font_types.specs.Tag.{tag_bytes}
use Rattle.font_types.proofs.Callers.{calls}
use Rattle.variations.specs.Evaluator.{HasAxis, HasTag, axis_tag_bytes}
use Rattle.variations.proofs.Settings.{no_tag}
use Rattle.variations.proofs.evaluator.has_tag.Goals as goal

pub loop-number-preserved : goal.loop-number-preserved
loop-number-preserved c =
    let fvar = c.args.fvar.now.bytes.now in
    below_more (λ k. HasAxis fvar k → axis_tag_bytes fvar k ≢ tag_bytes c.args.tag) c.loop-number.number
    c.loop-number.invariant (search (rules, calls))

pub returns : goal.returns
returns c =
    let none : ¬ HasTag c.args.fvar.now.bytes.now (tag_bytes c.args.tag) =
    no_tag _ _ c.loop-number.number (search (rules, calls)) c.loop-number.invariant in
    search (rules, calls, none)
