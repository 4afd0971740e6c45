-- Texts that are written one after another, whatever options the formatter has.
use Rattle.std.proofs.Common.{◌≡◌, ℕ, pos, arith, List, [], ◌∷◌, ◌++◌, ap, ◌∙◌, subst, decimal}
use Rattle.std.proofs.lemmas.List.Folds.{concat-append}
use Rattle.std.specs.{Fmt.HasWrittenStyled, List.FoldsTo, List.concat}
use Rattle.font_decimal.specs.Shortest.{shortest_text}
use Rattle.font_decimal.proofs.Printed.{integer_text}

folds_both : {P A : Type 0} (R : P → A → P → Type 0) (p q r : P) (xs ys : List A) → FoldsTo R p xs q → FoldsTo R q ys r
    → FoldsTo R p (xs ++ ys) r
folds_both R p q r [] ys first second = grind (arith, first, second)
folds_both R p q r (x ∷ xs) ys first second = (first.0, first.1, folds_both R first.0 q r xs ys first.2 second)

pub then_written : {W : Type 0} (took : W → List ℕ → W → Type 0) (f g h : _) (a b : List ℕ)
    → HasWrittenStyled {W = W} took f a g → HasWrittenStyled took g b h → HasWrittenStyled took f (a ++ b) h
then_written took f g h a b first second = record {
  wrote = record {
    parts = first.wrote.parts ++ second.wrote.parts;
    calls = folds_both took _ _ _ first.wrote.parts second.wrote.parts first.wrote.calls second.wrote.calls;
    whole = concat-append first.wrote.parts second.wrote.parts ∙ ap (λ z. z ++ concat second.wrote.parts) first.wrote.whole ∙ ap (λ z. a ++ z) second.wrote.whole;
  };
  spec = second.spec ∙ first.spec;
  flush = second.flush;
}

-- a natural number, as `Shortest` formats it without fraction bits
digits_written : {W : Type 0} (took : W → List ℕ → W → Type 0) (f g : _) (text : List ℕ) (n : ℕ)
    → text ≡ shortest_text (pos n) 0 → HasWrittenStyled {W = W} took f text g → HasWrittenStyled took f (decimal n) g
digits_written took f g text n same = subst (λ t. HasWrittenStyled took f t g) (same ∙ integer_text n)

-- such a number behind another text
pub number_written : {W : Type 0} (took : W → List ℕ → W → Type 0) (f g h : _) (front text : List ℕ) (n : ℕ)
    → text ≡ shortest_text (pos n) 0 → HasWrittenStyled {W = W} took f front g → HasWrittenStyled took g text h
    → HasWrittenStyled took f (front ++ decimal n) h
number_written took f g h front text n same first second =
    then_written took f g h front (decimal n) first (digits_written took g h text n same second)

-- two such numbers, with a text between them
pub numbers_written : {W : Type 0} (took : W → List ℕ → W → Type 0) (f g h i : _) (major between minor : List ℕ)
    (m n : ℕ) → major ≡ shortest_text (pos m) 0 → minor ≡ shortest_text (pos n) 0
    → HasWrittenStyled {W = W} took f major g → HasWrittenStyled took g between h → HasWrittenStyled took h minor i
    → HasWrittenStyled took f (decimal m ++ (between ++ decimal n)) i
numbers_written took f g h i major between minor m n same_m same_n first second third =
    then_written took f g i (decimal m) (between ++ decimal n) (digits_written took f g major m same_m first)
    (number_written took g h i between minor n same_n second third)
