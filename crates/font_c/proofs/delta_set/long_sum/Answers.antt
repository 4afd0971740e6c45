use Rattle.std.proofs.Common.{rules, arith, ◌≡◌, ◌∙◌, sym, ◌+◌, ◌*◌, ◌-◌, ◌<◌, get_or, ℤ, pos, ◌*ℤ◌}
use Rattle.font_types.specs.Fixed.{fixed_bits}
use Rattle.font_c.specs.DeltaSets.{delta_at, first_products}
use Rattle.font_c.proofs.DeltaSets.{narrow_product, no_products, next_product, sum_grows, wide_product}
use Rattle.font_c.proofs.delta_set.long_sum.Goals as goal

pub loop-i-init : goal.loop-i-init
loop-i-init c =
    let none = no_products 4 2 c.args.words c.args.set.now c.args.scalars.now in
    (search (rules, none), search rules)

pub loop-i-preserved : goal.loop-i-preserved
loop-i-preserved c =
    let words = c.args.words in
    let set = c.args.set.now in
    let xs = c.args.scalars.now in
    let i = c.loop-i.i in
    let term : ℤ = fixed_bits c.from_bits.result *ℤ c.long_at.result in
    let within : i < words = search rules in
    let in_set = wide_product 4 (4 * i) (4 * words) words i set _ xs _ term within (omega (arith, within))
    c.split_at.ensures.front c.split_at-2.ensures.front (search rules) in
    let product : term ≡ (get_or xs i (pos 0) *ℤ delta_at 4 2 words set i) = search (rules, in_set) in
    let grown = sum_grows i (first_products 4 2 words set xs i) (get_or xs i (pos 0) *ℤ delta_at 4 2 words set i) _ _ _
    (search rules) c.loop-i.invariant (search (rules, product)) c.add_product.ensures.small in
    (grown.0 ∙ sym (next_product 4 2 words set xs i), grown.1)

pub loop-i-2-preserved : goal.loop-i-2-preserved
loop-i-2-preserved c =
    let words = c.args.words in
    let set = c.args.set.now in
    let xs = c.args.scalars.now in
    let i = c.loop-i-2.i in
    let n = words + i in
    let term : ℤ = fixed_bits c.from_bits-in-loop-i-2.result *ℤ c.from.result in
    let in_set = narrow_product 2 (2 * i) (4 * words) (4 * words + 2 * (n - words)) words i set _ xs _ term
    (omega arith) c.split_at.ensures.back c.split_at-2.ensures.back (search rules) in
    let product : term ≡ (get_or xs n (pos 0) *ℤ delta_at 4 2 words set n) = search (rules, in_set) in
    let grown = sum_grows n (first_products 4 2 words set xs n) (get_or xs n (pos 0) *ℤ delta_at 4 2 words set n) _ _ _
    (search rules) c.loop-i-2.invariant (search (rules, product)) c.add_product-in-loop-i-2.ensures.small in
    let next = grown.0 ∙ sym (next_product 4 2 words set xs n) in
    (search (rules, next), search (rules, grown.1))
