-- The bytes that a read number gives, and that an input has one output: each definition on the way from a line to its
-- text has one result.
use Rattle.std.proofs.Common.{◌≡◌, ℕ, List, refl, sym, Result, rules, [], ◌∷◌, ◌++◌, Ok, ◌∙◌, ℤ, ◌/◌, Bool, arith, ap}
use Rattle.std.proofs.Common.{append_assoc, append-nil, length, slice_index}
use Rattle.font_lines.specs.Command.{AnswersWords, ReportsTag, IsNamedType, ShowsParsed, fixed_row, IsAnswer, IsNamed}
use Rattle.font_lines.specs.Command.{ShowsBytes}
use Rattle.font_lines.specs.Numbers.{ScansNumber, ScansFixed, ScansInteger, ScansTerm, CollectsEach, CollectsFixed}
use Rattle.font_lines.specs.Numbers.{CollectsTerms, AndThen, pairs_of}
use Rattle.font_lines.specs.declared.command.Command.TheVariants.{FixedPoint, Read, Image, Vary, Integer, Tag, Sum}
use Rattle.font_lines.specs.Answers.{Answers, AnswersLine, AnswersLines, AppendsAnswer, AppendsAnswers}
use Rattle.font_lines.specs.{Error.Answer, Error.GivesAnswer, declared.error.LineError.LineError}
use Rattle.font_lines.specs.{declared.error.CommandError.CommandError, Deltas.Varies, Deltas.varied_answer}
use Rattle.font_lines.specs.{Images.ShowsImages, declared.command.Command.Command, declared.command.FixedType.FixedType}
use Rattle.font_lines.specs.{Answers.Laws.answers_in_turn, Text.lines_of, Text.words_of}
use Rattle.std.specs.{Result.result_map_both, Int.Width, Bool.MatchBool}
use Rattle.font_types.specs.{Bytes.bytes_of, DecimalFault.DecimalFault, NumberReading.ParsesFixedPoint, Tag.IsValidated}
use Rattle.font_types.specs.{Tag.byte_text, Tag.tag_text, Fixed.Fixed, Fixed.fixed_of}
use mir.Val.{bits}
use Rattle.font_lines.proofs.WordByWord.{even_terms}
use Rattle.font_types.proofs.Callers.{reading_unique, validated_good}

-- an answer that is right by one rule is right by another
pub given_as : (IsRight IsMeant : Answer → Type 0) (old new : List ℕ) (outcome : Result (Unit {0}) CommandError)
    → ((answer : Answer) → IsRight answer → IsMeant answer) → GivesAnswer IsRight old new outcome
    → GivesAnswer IsMeant old new outcome
given_as IsRight IsMeant old new outcome means given = record { is_given = search rules }

-- the bytes of the number that a text is read as
pub given_number : {T U : Type 0} (type : FixedType) {text old new : List ℕ} {f : ℕ} {w : Width}
    {outcome : Result (Unit {0}) CommandError} {bits_of : T → ℤ} {raw_of : U → List ℕ} {read : Result T DecimalFault}
    {number : Result U DecimalFault}
    → GivesAnswer (ShowsBytes raw_of number) old new outcome → ParsesFixedPoint w f bits_of text read
    → result_map_both raw_of (λ fault. fault) number
    ≡ result_map_both (λ x. bytes_of (bits w / 8) (bits_of x)) (λ fault. fault) read
    → fixed_row type ≡ ((fixed_row type).0, bits w, f)
    → GivesAnswer (ShowsParsed type text) old new outcome
given_number type {text = text} {bits_of = bits_of} {raw_of = raw_of} {read = read} {number = number}
    shown reads same row =
    grind arith

-- ---- the text of a tag and of its validation
-- four bytes one after another
pub four_texts : (bytes : List ℕ) → length bytes ≡ 4
    → byte_text (slice_index bytes 0) ++ (byte_text (slice_index bytes 1) ++ (byte_text (slice_index bytes 2)
    ++ byte_text (slice_index bytes 3))) ≡ tag_text bytes
four_texts (a ∷ b ∷ c ∷ d ∷ []) four = simp append-nil refl
four_texts bytes four = grind (arith, four)

-- the text that follows another
pub given_after : (text last : List ℕ) {old middle new : List ℕ} (IsRight : Answer → Type 0)
    (outcome : Result (Unit {0}) CommandError) → middle ≡ old ++ text → IsRight (Ok (text ++ last))
    → GivesAnswer (λ answer. answer ≡ Ok last) middle new outcome → GivesAnswer IsRight old new outcome
given_after text last IsRight outcome first right second = grind (arith, append_assoc)

-- a value varied by terms, of whose words there are not an odd number
pub given_varied : (line words : List (List ℕ)) (base : List ℕ) (units : ℤ) (terms : List (Fixed × ℤ))
    (old new : List ℕ) (outcome : Result (Unit {0}) CommandError) → line ≡ base ∷ words
    → ScansInteger 16 base (Ok units)
    → CollectsTerms words (Ok terms) → GivesAnswer (λ answer. answer ≡ varied_answer units terms) old new outcome
    → GivesAnswer (Varies line) old new outcome
given_varied line words base units terms old new outcome first scanned read given = rw first (given_as _ _ _ _ _
    (λ answer is. rw (even_terms words terms read) (record {
      first = Ok units;
      is_first = scanned;
      goes_on = record { first = Ok terms; is_first = read; goes_on = is };
    })) given)

-- ---- there is one answer
-- at most one value satisfies the predicate
abbrev pub IsOne : {T : Type 0} → (T → Type 0) → Type 0
IsOne {T} Is = (x y : T) → Is x → Is y → x ≡ y

one_value : {T : Type 0} (value : T) → IsOne (λ (x : T). x ≡ value)
one_value value x y p q = p ∙ sym q

module _ {T : Type 0} (P Q : T → Type 0) where
  one_either : (b : Bool) → IsOne P → IsOne Q → IsOne (λ x. MatchBool b (P x) (Q x))
  one_either b p q x y = search rules

module _ {A B : Type 0} (GoesOn : A → Result B LineError → Type 0) (one : (value : A) → IsOne (GoesOn value)) where
  one_then : (IsFirst : Result A LineError → Type 0) → IsOne IsFirst → IsOne (AndThen IsFirst GoesOn)
  one_then IsFirst one_first x y p q = grind arith

one_number : {T : Type 0} (w f : ℕ) (value : ℤ → T) (text : List ℕ) → IsOne (ScansNumber w f value text)
one_number w f value text x y p q = grind (arith, reading_unique)

one_whole : (w : ℕ) (word : List ℕ) → IsOne (ScansInteger w word)
one_whole w word x y p q = grind arith

one_each : {W T : Type 0} (reads : W → Result T LineError → Type 0) → ((word : W) → IsOne (reads word))
    → (words : List W) → IsOne (CollectsEach reads words)
one_each reads one [] = one_value (Ok [])
one_each reads one (word ∷ words) = search (rules, one_then, one_value, one_each reads one words)

one_term : (words : List ℕ × List ℕ) → IsOne (ScansTerm words)
one_term words = search (rules, one_then, one_value, one_number, one_whole)

one_terms : (words : List (List ℕ)) → IsOne (CollectsTerms words)
one_terms words = one_either _ _ _ (one_each ScansTerm one_term (pairs_of words)) (one_value _)

one_just : (n : ℕ) (words : List (List ℕ)) → IsOne (CollectsFixed n words)
one_just n words = one_either _ _ _ (one_each ScansFixed (one_number 32 16 fixed_of) words) (one_value _)

-- ---- names
one_named : (word : List ℕ) → IsOne (IsNamed word)
one_named word x y p q = search rules

one_named_type : (word : List ℕ) → IsOne (IsNamedType word)
one_named_type word x y p q = search rules

-- ---- tags

module _ (bytes : List ℕ) where
  one_validation : IsOne (IsValidated bytes)
  one_validation x y p q = grind (arith, validated_good)

  one_report : IsOne (ReportsTag bytes)
  one_report x y p q = let same = one_validation p.validation q.validation p.is_validation q.is_validation in cc

one_images : (numbers : List Fixed) → IsOne (ShowsImages numbers)
one_images numbers x y p q = let same = sym p.are ∙ q.are in cc

one_vary : (words : List (List ℕ)) → IsOne (Varies words)
one_vary [] = one_value _
one_vary (base ∷ words) = one_either _ _ _
    (one_then _ (λ units. one_then _ (λ terms. one_value _) _ (one_terms words)) _ (one_whole 16 base)) (one_value _)

one_answer_of : (words : List (List ℕ)) (command : Command) → IsOne (AnswersWords words command)
one_answer_of words (Integer type) = one_value _
one_answer_of words (FixedPoint type) = one_value _
one_answer_of words Read = search (rules, one_then, one_number, one_named_type)
one_answer_of words Tag = search (rules, one_report)
one_answer_of words Image = one_then _ one_images (CollectsFixed 14 words) (one_just 14 words)
one_answer_of words Sum = one_then _ (λ terms. one_value _) _ (one_terms words)
one_answer_of words Vary = one_vary words

one_answer : (words : List (List ℕ)) → IsOne (IsAnswer words)
one_answer words = grind (arith, one_answer_of, one_named)

one_text : (line : List ℕ) → IsOne (AnswersLine line)
one_text line x y p q = let same = one_answer (words_of line) p.answer q.answer p.meant q.meant in cc

-- an input has one output
pub one_output : (lines : List (List ℕ)) → IsOne (AnswersLines lines)
one_output [] x y p q = p ∙ sym q
one_output (line ∷ lines) x y p q =
    let text = one_text line p.text q.text p.answers q.answers in
    let rest = one_output lines p.rest q.rest p.others q.others in
    cc

-- an input that is cut after a line feed is answered as its parts are
pub answers_of_parts : (front second a b whole : List ℕ) → Answers (front ++ 10 ∷ []) a → Answers second b
    → Answers (front ++ 10 ∷ second) whole → whole ≡ a ++ b
answers_of_parts front second a b whole first then_b given =
    one_output _ whole (a ++ b) given (answers_in_turn front second a b first then_b)

-- ---- line after line
-- the output answers the input before `left`: the answers to the lines of `left` complete it
pub record IsAnsweredUpTo (input left old output : List ℕ) : Type 0 where
  pub completes : (rest : List ℕ) → AnswersLines (lines_of left) rest → AppendsAnswers input old (output ++ rest)

-- no line is answered
pub answered_none : (input old : List ℕ) → IsAnsweredUpTo input input old old
answered_none input old = record {
  completes = λ rest others. record { text = rest; answers = others; appended = refl };
}

-- one line more is answered, and followed by a line feed
pub answered_more : (input left left' line old output output' : List ℕ)
    → IsAnsweredUpTo input left old output
    → lines_of left ≡ line ∷ lines_of left'
    → AppendsAnswer line output output'
    → IsAnsweredUpTo input left' old (output' ++ 10 ∷ [])
answered_more input left left' line old output output' so_far next one = record {
  completes = λ rest others. simp (one.appended, append_assoc) (so_far.completes (one.text ++ 10 ∷ rest)
      (rw next (record { text = one.text; rest = rest; answers = one.answers; others = others; joined = refl })));
}

-- when no line is left, the whole input is answered
pub answered_all : (input left old output : List ℕ) → IsAnsweredUpTo input left old output → lines_of left ≡ []
    → AppendsAnswers input old output
answered_all input left old output so_far none = rw append-nil at (so_far.completes [] (rw none refl))

-- by the input's one output
pub answered_only : (input old output other : List ℕ) → AppendsAnswers input old output → Answers input other
    → output ≡ old ++ other
answered_only input old output other one given =
    one.appended ∙ ap (λ text. old ++ text) (one_output (lines_of input) one.text other one.answers given)

pub ruleset answer_steps = (answered_none, answered_more, answered_all, answered_only)
