use Rattle.font_decimal.proofs.Padded.{no_minus_found}
use Rattle.font_decimal.proofs.padding.shown_parts.Goals as goal

pub returns-in-None-clause-sign : goal.returns-in-None-clause-sign
returns-in-None-clause-sign c = rw (no_minus_found _ c.in-None.ensures.cases, c.if-plus.true)

pub returns-in-None-clause-body : goal.returns-in-None-clause-body
returns-in-None-clause-body c = rw (no_minus_found _ c.in-None.ensures.cases)

pub returns-in-None-2-clause-sign : goal.returns-in-None-2-clause-sign
returns-in-None-2-clause-sign c = rw (no_minus_found _ c.in-None.ensures.cases, c.if-plus.false)

pub returns-in-None-2-clause-body : goal.returns-in-None-2-clause-body
returns-in-None-2-clause-body c = rw (no_minus_found _ c.in-None.ensures.cases)
