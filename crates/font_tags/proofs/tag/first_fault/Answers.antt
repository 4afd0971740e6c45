use Rattle.font_tags.proofs.Good.{run_good, run_fault}
use Rattle.font_tags.proofs.tag.first_fault.Goals as goal

pub returns-then-pos-bytes : goal.returns-then-pos-bytes
returns-then-pos-bytes c =
    let run = c.visible_run-run.ensures in
    let after = c.after_spaces-pos.ensures in
    run_fault _ _ _ c.if-run-eq0.false run.visible run.end after.within.0 c.if-pos-bytes.true after.spaces
    (after.end c.if-pos-bytes.true)

pub returns-else-pos-bytes : goal.returns-else-pos-bytes
returns-else-pos-bytes c =
    let after = c.after_spaces-pos.ensures in
    run_good _ _ _ c.if-run-eq0.false c.visible_run-run.ensures.visible after.within.0 after.within.1 after.spaces
    c.if-pos-bytes.false
