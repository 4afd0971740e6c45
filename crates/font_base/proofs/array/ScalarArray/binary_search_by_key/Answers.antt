use Rattle.std.proofs.{Common.rules, lemmas.Fn.always_returns_same}
use Rattle.font_base.proofs.Searched.{searched, found_within, absent_within}
use Rattle.font_base.proofs.array.ScalarArray.binary_search_by_key.Goals as goal

pub returns-clause-found : goal.returns-clause-found
returns-clause-found g c =
    let std = c.binary_search_by_key in found_within _ _ _ _ c.args.self.now.are_raw std.result std.ensures.bound

pub returns-clause-absent : goal.returns-clause-absent
returns-clause-absent g c =
    let std = c.binary_search_by_key in absent_within _ _ _ _ c.args.self.now.are_raw std.result std.ensures.bound

pub returns-clause-place : goal.returns-clause-place
returns-clause-place g c = λ of computes.
    let std = c.binary_search_by_key in
    let scalar = g.T.Scalar in
    let raw = g.T.Raw.BeByteArray in
    searched scalar.is_scalar raw.is_value scalar.of_raw scalar.raw_of raw.bytes raw.LEN g.T.FixedSize.RAW_BYTE_LEN
    g.met.T.Scalar.laws g.met.T.Raw.BeByteArray.same_bytes c.args.self.now.raw.now c.args.self.now.are_raw
    (λ v. g.K.Ord.cmp (of v) c.args.key.now) std.result std.ensures.bound
    (std.ensures.position (λ raw. of (g.T.Scalar.of_raw raw))
    (always_returns_same _ _ _ (λ a r f' k. search (rules, computes, k))))
