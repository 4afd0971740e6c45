use borrow.Author.Count.{below_more}
use Rattle.std.proofs.Common.{rules, ◌≡◌, ℕ, ◌+◌, ◌<◌, ◌+ℤ◌, ◌*ℤ◌}
use Rattle.font_types.specs.{Fixed.fixed_bits, F48Dot16.f48dot16_bits}
use Rattle.font_types.proofs.Callers.{calls}
use Rattle.variations.specs.{Advances.regions_of, Variations.HasTerm, Variations.IsTerm}
use Rattle.variations.proofs.Stores.{one_more_term, term_fits, term_small, sum_rules, set_sum_is_near}
use Rattle.variations.proofs.instances.StoreInstance.sum.Goals as goal

pub loop-column-preserved : goal.loop-column-preserved
loop-column-preserved c =
    let n = c.loop-column.column in
    let sum = f48dot16_bits c.loop-column.sum in
    let scalar = c.in_ok-scalar.scalar in
    let delta = c.in_ok-scalar.delta in
    let regions = regions_of c.args.self.now.store.bytes.now in
    let few : n < 65535 = search (rules, calls) in
    let so_far = c.loop-column.invariant in
    let term = c.in_ok-scalar.ensures in
    let fits = term_fits n sum (fixed_bits scalar) delta few so_far.1 term.low term.high term.size in
    let after : f48dot16_bits c.add_assign.new.self ≡ (sum +ℤ (fixed_bits scalar *ℤ delta)) =
    search (rules, calls, fits) in
    let is_term : IsTerm regions c.args.subtable.now c.args.self.now.coordinates.now c.args.set n (scalar, delta) =
    rw (c.in_ok-row.ensures.subtable, c.in_ok-row.ensures.set) at term.value in
    let here : HasTerm regions c.args.subtable.now c.args.set n = search (rules, calls) in
    let each : (k : ℕ) → k < n + 1 → HasTerm regions c.args.subtable.now c.args.set k =
    below_more (HasTerm regions c.args.subtable.now c.args.set) n so_far.2 here in (
      rw after (one_more_term regions c.args.subtable.now c.args.self.now.coordinates.now c.args.set n sum scalar
          delta so_far.0 is_term),
      rw after (term_small n sum (fixed_bits scalar) delta few so_far.1 term.low term.high term.size),
      each,
    )

pub returns-then-count-eq0-clause-near : goal.returns-then-count-eq0-clause-near
returns-then-count-eq0-clause-near c = set_sum_is_near (regions_of c.args.self.now.store.bytes.now) c.args.subtable.now
    c.args.self.now.coordinates.now c.args.set _ (search (rules, calls, sum_rules))

pub returns-clause-near : goal.returns-clause-near
returns-clause-near c = set_sum_is_near (regions_of c.args.self.now.store.bytes.now) c.args.subtable.now
    c.args.self.now.coordinates.now c.args.set (f48dot16_bits c.loop-column.sum) (search (rules, calls, sum_rules))
