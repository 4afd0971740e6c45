use Rattle.std.proofs.Common.{◌≡◌, ◌∙◌, sym, ap, length, arith, Some}
use Rattle.std.proofs.lemmas.List.{length-map}
use Rattle.font_ids.specs.NameId.{name_id_of, predefined_left}
use Rattle.font_ids.proofs.Names.{left_from, left_from-low, left_from-high, left_from-none}
use Rattle.font_ids.proofs.name_id.PredefinedIterator.size_hint.Goals as goal
use Rattle.font_ids.proofs.name_id.PredefinedIterator.size_hint.Goals.{in-0-to-15, in-16-to-25, in_default}

pub returns-clause-exact : goal.returns-clause-exact
unfolding predefined_left
returns-clause-exact c =
    let n = c.args.self.now.next in
    let count : c.if-self-lt16.left ≡ length (left_from n) = elim c.if-self-lt16.branch [
      | in-0-to-15 w ↦ w.left-is ∙ sym (left_from-low n (omega arith))
      | in-16-to-25 w ↦ w.left-is ∙ sym (left_from-high n (omega arith) (omega arith))
      | in_default w ↦ w.left-is ∙ sym (left_from-none n (omega arith))
    ] in
    ap (λ left. (left, Some left)) (count ∙ sym (length-map (left_from n) name_id_of))
