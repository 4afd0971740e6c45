use Rattle.std.proofs.Common.{rules}
use Rattle.font_base.proofs.array.ScalarArray.binary_search.Goals as goal

pub returns : goal.returns
returns g c = c.binary_search_by_key.ensures.place (λ v. v) (λ v k post. search (rules, post))
