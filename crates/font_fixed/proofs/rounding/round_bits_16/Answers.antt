-- @generated from crates/font_fixed/proofs/rounding/round_bits_32/Answers.antt by tools/erase
use Rattle.std.proofs.Common.{rules, refl, ◌≡◌, w16}
use Rattle.font_fixed.proofs.{Rounds.nearest_is, Rounds.no_nearest, rounding.round_bits_16.Goals.After-floor_bits_16}
use Rattle.font_fixed.specs.Rounding.{rounded}
use Rattle.font_fixed.proofs.rounding.round_bits_16.Goals as goal

value : (c : After-floor_bits_16) → c.floor_bits_16.result ≡ rounded c.args.f c.args.bits
value c = nearest_is w16 _ c.args.f c.args.bits _ _ refl c.requires.0 c.requires.1
    (search rules) c.floor_bits_16.ensures

pub returns-in-None-clause-variant : goal.returns-in-None-clause-variant
returns-in-None-clause-variant c =
    let none = no_nearest w16 _ c.args.f c.args.bits refl c.requires.0 c.requires.1 c.ranges.bits (search rules) in
    search (rules, none)

pub returns-in-Some-clause-variant : goal.returns-in-Some-clause-variant
returns-in-Some-clause-variant c = search (rules, value c)

pub returns-in-Some-clause-value : goal.returns-in-Some-clause-value
returns-in-Some-clause-value c = search (rules, value c)
