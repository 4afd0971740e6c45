use Rattle.std.proofs.Common.{rules, arith, ◌≡◌, ◌+◌, ◌*◌, ◌-◌, ◌<◌, get_or, lit≤, pos, ◌+ℤ◌, ◌*ℤ◌}
use Rattle.font_c.specs.DeltaSets.{delta_at, first_products}
use Rattle.font_c.proofs.DeltaSets.{narrow_product, no_products, next_product, wide_product}
use Rattle.font_c.proofs.delta_set.exact_sum.Goals as goal

pub loop-i-init : goal.loop-i-init
loop-i-init c = (no_products 2 1 c.args.words c.args.set.now c.args.scalars.now, lit≤ tt)

pub loop-i-preserved : goal.loop-i-preserved
loop-i-preserved c =
    let words = c.args.words in
    let set = c.args.set.now in
    let xs = c.args.scalars.now in
    let i = c.loop-i.i in
    let within : i < words = search rules in
    let term = wide_product 2 (2 * i) (2 * words) words i set _ xs _ c.product-sum.result within
    (omega (arith, within)) c.split_at.ensures.front c.split_at-2.ensures.front (search rules) in
    let product : c.product-sum.result ≡ (get_or xs i (pos 0) *ℤ delta_at 2 1 words set i) = search (rules, term) in
    let more = next_product 2 1 words set xs i in
    let next : (c.loop-i.sum +ℤ c.product-sum.result) ≡ first_products 2 1 words set xs (i + 1) =
    search (rules, product, more) in
    (search (rules, next), search rules)

pub loop-i-2-preserved : goal.loop-i-2-preserved
loop-i-2-preserved c =
    let words = c.args.words in
    let set = c.args.set.now in
    let xs = c.args.scalars.now in
    let i = c.loop-i-2.i in
    let result = c.product-sum-in-loop-i-2.result in
    let term = narrow_product 1 i (2 * words) (2 * words + 1 * (words + i - words)) words i set _ xs _ result
    (omega arith) c.split_at.ensures.back c.split_at-2.ensures.back (search rules) in
    let product : result ≡ (get_or xs (words + i) (pos 0) *ℤ delta_at 2 1 words set (words + i)) =
    search (rules, term) in
    let more = next_product 2 1 words set xs (words + i) in
    let next : (c.loop-i-2.sum +ℤ result) ≡ first_products 2 1 words set xs (words + (i + 1)) =
    search (rules, product, more) in
    (search (rules, next), search rules)
