use Rattle.std.proofs.Common.{◌≢◌, sym}
use Rattle.std.proofs.lemmas.List.Elements.{All-same}
use Rattle.font_types.specs.{Fixed.fixed_text, Shown.shown}
use Rattle.callers.proofs.Spaces.{of_decimal}
use Rattle.callers.proofs.words.show_no_space.Goals as goal

pub returns : goal.returns
returns c =
    let decimal = c.to_decimal-text.ensures.shortest.plain.decimal in
    let text = shown c.to_decimal-text.result in
    All-same (λ byte. byte ≢ 32) (fixed_text c.args.number) text (sym c.to_decimal-text.ensures.text)
    (of_decimal text decimal.negative decimal.whole decimal.fraction decimal.parts)
