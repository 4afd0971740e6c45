use Rattle.std.proofs.Common.{rules, ◌≡◌, ◌∙◌, List, [], ◌∷◌, ◌++◌, take, drop, length, arith, sym, ap, refl}
use Rattle.std.proofs.Common.{slice_index_or, pos, take-append-drop}
use Rattle.font_types.specs.{Matrix.elements_of, Fixed.fixed_of}
use Rattle.font_lines.proofs.images.ImagesFromArrayFixed14.from.Goals as goal

-- a list of two is its first and its second
just_two : {T : Type 0} (values : List T) (default : T) → length values ≡ 2 → values ≡ slice_index_or values 0 default
    ∷ slice_index_or values 1 default ∷ []
just_two (x ∷ y ∷ []) default two = refl
just_two values default two = grind (arith, two)

pub returns : goal.returns
returns c =
    let rest = c.unwrap.result.1.now in
    let last = c.unwrap-2.result.1.now in
    let a : take 6 c.args.numbers ≡ elements_of c.from_elements.result = search rules in
    let after : drop 6 c.args.numbers ≡ rest = search rules in
    let b : take 6 rest ≡ elements_of c.from_elements-2.result = search rules in
    let end : drop 6 rest ≡ last = search rules in
    let two : length last ≡ 2 = search rules in
    let p : last ≡ c.new.result.x ∷ c.new.result.y ∷ [] = just_two last (fixed_of (pos 0)) two ∙ search rules in
    sym (take-append-drop 6 c.args.numbers) ∙ rw (a, after)
    (ap (λ more. elements_of c.from_elements.result ++ more) (sym (take-append-drop 6 rest) ∙ rw (b, end, p) refl))
