use Rattle.std.proofs.Common.{ap, ◌≡◌, ◌∙◌, Ok, w64, FitsSigned, to_z-of_z}
use Rattle.font_types.specs.{Shortest.shortest_text, Shown.shown}
use Rattle.font_lines.proofs.{Commands.given_as, Integers.shortest_integer}
use Rattle.font_lines.proofs.integer.append_integer.Goals as goal

pub returns : goal.returns
returns g c =
    let fits : FitsSigned w64 c.args.number = c.ranges.number in
    let text : shown c.new.result ≡ shortest_text c.args.number 0 = simp to_z-of_z at c.new.ensures.text in
    given_as _ _ _ _ _ (λ answer is. is ∙ ap Ok (text ∙ shortest_integer c.args.number)) c.append_decimal.ensures
