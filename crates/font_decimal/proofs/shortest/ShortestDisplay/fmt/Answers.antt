use Rattle.std.proofs.Common.{sym, ◌∙◌, ap}
use Rattle.std.specs.{Option.is_some, Fmt.formatter_spec}
use Rattle.font_decimal.proofs.Padded.{bare_number, no_minus_found}
use Rattle.font_decimal.proofs.shortest.ShortestDisplay.fmt.Goals as goal

pub returns-then-not-sign_plus-clause-styled : goal.returns-then-not-sign_plus-clause-styled
returns-then-not-sign_plus-clause-styled g c =
    let width = ap is_some (sym c.width.ensures.value) ∙ c.if-is_none.ensures in
    let plus = sym c.sign_plus.ensures.value ∙ c.if-not-sign_plus.true in
    rw (bare_number (formatter_spec c.args.f.now) _ width plus, ← c.as_str-text.ensures.text) c.write_str.ensures.styled

pub returns-in-None-clause-styled : goal.returns-in-None-clause-styled
returns-in-None-clause-styled g c =
    rw (← c.as_str-text.ensures.text, no_minus_found _ c.in-None.ensures.cases) c.pad_integral-in-None.ensures.styled
