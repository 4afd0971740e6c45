-- The scalar is one of those that the instance keeps.
use Rattle.std.proofs.Common.{rules}
use Rattle.font_types.proofs.Callers.{calls}
use Rattle.variations.proofs.Stores.{region_rules}
use Rattle.variations.proofs.instances.StoreInstance.scalar.Goals as goal

pub returns-in-Some-clause-variant : goal.returns-in-Some-clause-variant
returns-in-Some-clause-variant c =
    let are = c.args.self.now.at c.in-Some.scalars c.in-Some.is in
    search (rules, calls, region_rules, are)

pub returns-in-Some-clause-low : goal.returns-in-Some-clause-low
returns-in-Some-clause-low c =
    let are = c.args.self.now.at c.in-Some.scalars c.in-Some.is in
    search (rules, calls, region_rules, are)

pub returns-in-Some-clause-high : goal.returns-in-Some-clause-high
returns-in-Some-clause-high c =
    let are = c.args.self.now.at c.in-Some.scalars c.in-Some.is in
    search (rules, calls, region_rules, are)
