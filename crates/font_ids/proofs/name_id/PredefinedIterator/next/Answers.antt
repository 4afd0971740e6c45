use Rattle.std.proofs.Common.{◌≡◌, ◌≢◌, ◌⊎◌, inl, inr, ap, map, length, rules}
use Rattle.font_ids.specs.NameId.{name_id_of, predefined_left}
use Rattle.font_ids.proofs.Names.{left_from-next}
use Rattle.font_ids.proofs.name_id.PredefinedIterator.next.Goals as goal
use Rattle.font_ids.proofs.name_id.PredefinedIterator.next.Goals.{then-self-eq15, else-self-eq15}

pub returns-clause-steps : goal.returns-clause-steps
unfolding predefined_left
returns-clause-steps c =
    let n = c.args.self.now.next in
    let k = c.if-self-eq15.number in
    let reached : ((n ≡ 15) × (k ≡ 16)) ⊎ ((n ≢ 15) × (k ≡ n)) = elim c.if-self-eq15.branch [
      | then-self-eq15 w ↦ inl (w.if-self-eq15.true, w.number-is)
      | else-self-eq15 w ↦ inr (w.if-self-eq15.false, w.number-is)
    ] in
    ap (λ numbers. map name_id_of numbers) (left_from-next n k reached c.if-number-gt25.false)

pub returns-clause-goes : goal.returns-clause-goes
unfolding predefined_left
returns-clause-goes c = let shorter = ap length (returns-clause-steps c) in search rules
