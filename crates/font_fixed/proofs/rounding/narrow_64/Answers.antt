use Rattle.std.proofs.Common.{rules, ◌^◌, w64}
use Rattle.font_decimal.specs.Near.{up}
use Rattle.font_fixed.proofs.Rounds.{integer_fits, raw_value_fits, shifted_back}
use Rattle.font_fixed.proofs.rounding.narrow_64.Goals as goal

pub returns-in-None-clause-variant : goal.returns-in-None-clause-variant
returns-in-None-clause-variant c =
    let raw = raw_value_fits 64 c.args.f (up c.args.bits (2 ^ c.args.f)) c.requires.1 in
    search (rules, raw)

pub returns-in-Some-clause-variant : goal.returns-in-Some-clause-variant
returns-in-Some-clause-variant c =
    let integer = integer_fits 64 c.args.f (up c.args.bits (2 ^ c.args.f)) c.requires.1 in
    search (rules, integer)

pub returns-in-Some-clause-value : goal.returns-in-Some-clause-value
returns-in-Some-clause-value c =
    shifted_back w64 c.args.f c.args.bits c.in-Some.whole (search rules) (search rules)
