use Rattle.std.proofs.{Common.rules, lemmas.Fn.always_returns_same}
use Rattle.font_base.proofs.Searched.{parted}
use Rattle.font_base.proofs.array.ScalarArray.partition_point.Goals as goal

pub returns-clause-place : goal.returns-clause-place
returns-clause-place g c = λ before computes.
    let std = c.partition_point in
    let scalar = g.T.Scalar in
    let raw = g.T.Raw.BeByteArray in
    parted scalar.is_scalar raw.is_value scalar.of_raw scalar.raw_of raw.bytes raw.LEN g.T.FixedSize.RAW_BYTE_LEN
    g.met.T.Scalar.laws g.met.T.Raw.BeByteArray.same_bytes c.args.self.now.raw.now c.args.self.now.are_raw
    before std.result std.ensures.bound (std.ensures.partitioned (λ raw. before (g.T.Scalar.of_raw raw))
    (always_returns_same _ _ _ (λ a r f' k. search (rules, computes, k))))
