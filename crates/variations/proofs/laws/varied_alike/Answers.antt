use Rattle.std.proofs.Common.{rules, ap}
use Rattle.font_types.specs.FWord.{ufword_number, ufword_of}
use Rattle.font_types.proofs.Callers.{calls}
use Rattle.variations.proofs.OneAdvance.{one_advance}
use Rattle.variations.proofs.laws.varied_alike.Goals as goal

pub returns-clause-equal : goal.returns-clause-equal
returns-clause-equal c =
    let by_store = rw (c.store.ensures, c.coordinates.ensures) at c.vary_advance-by_store.ensures.value in
    one_advance ufword_number (λ x y is. ap ufword_of is) c.args.instance.now.store.bytes.now
    c.args.instance.now.coordinates.now c.args.set.outer c.args.set.inner c.args.advance c.vary_advance-by_instance.result
    c.vary_advance-by_store.result (search (rules, calls)) (search (rules, calls)) (search (rules, calls))
    (search (rules, calls)) c.vary_advance-by_instance.ensures.value by_store
