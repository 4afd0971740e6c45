-- The first line of an input, and the first word of a line.
use Rattle.std.proofs.Common.{◌≡◌, ℕ, suc, ◌+◌, ◌<◌, List, [], ◌∷◌, length, refl, ap, arith, inl, inr, ◌≤◌, ◌∙◌, Some}
use Rattle.std.proofs.Common.{None, drop-cons, not, position, filter, drop, take_all}
use Rattle.std.proofs.lemmas.Bool.{cases_Bool, cases_lt, not-true}
use Rattle.std.proofs.lemmas.List.Splits.{length-slice_split, slice_split_first, slice_split_none}
use Rattle.std.proofs.lemmas.List.Sums.{length-filter, fails_before_first}
use Rattle.std.proofs.{Math.Numerals.one-add, lemmas.Grind.common_steps, lemmas.List.drop_all}
use Rattle.std.proofs.{lemmas.List.nil_from_length, lemmas.List.Quantifiers.position-Some, lemmas.Option.cond_some}
use Rattle.std.specs.List.{position_or_len, before_first, after_first, onto_first, slice_split}
use Rattle.font_lines.specs.Text.{is_line_feed, lines_of, is_blank, is_nonempty, from_first, words_of}

-- an empty input has no line
pub no_lines : (input : List ℕ) → length input ≡ 0 → lines_of input ≡ []
unfolding lines_of
no_lines input none = rw (nil_from_length input none) refl

-- the first line, with one byte more in front
longer_line : (byte : ℕ) (rest : List ℕ) → onto_first byte (lines_of rest)
    ≡ (byte ∷ before_first is_line_feed rest) ∷ lines_of (after_first is_line_feed rest)
unfolding lines_of
longer_line byte [] = refl
longer_line byte (next ∷ rest) = grind (arith, one-add, longer_line next rest)

-- an input that is not empty has a first line, which ends before the first line feed
pub first_line : (input : List ℕ) → 0 < length input
    → lines_of input ≡ before_first is_line_feed input ∷ lines_of (after_first is_line_feed input)
unfolding lines_of
first_line input some = grind (arith, longer_line)

pub ruleset line_steps = (first_line, no_lines)

-- ---- the first word
-- blanks in front change no word
words_after_blanks : (line : List ℕ) → words_of line ≡ words_of (from_first (λ byte. not (is_blank byte)) line)
unfolding words_of
words_after_blanks [] = refl
words_after_blanks (byte ∷ rest) = elim (cases_Bool (is_blank byte)) [
  | inl blank ↦ rw (blank, one-add (position_or_len (λ c. not (is_blank c)) rest)) (words_after_blanks rest)
  | inr word ↦ rw (word, word) refl
]

-- the text before the first blank is a word, unless it is empty, and the others are after the blank
first_part : (text : List ℕ) → words_of text
    ≡ filter is_nonempty (before_first is_blank text ∷ slice_split is_blank (after_first is_blank text))
unfolding words_of
first_part text = elim (cases_lt (position_or_len is_blank text) (length text)) [
  | inl inside ↦ ap (filter is_nonempty) (slice_split_first is_blank text 0 inside)
  | inr none ↦
      rw (
        slice_split_none is_blank text (λ i d within. fails_before_first is_blank text i d (omega arith)),
        take_all _ text none,
        drop_all (position_or_len is_blank text + 1) text (omega arith),
      ) refl
]

-- the first word of a line that has one, and the words after it
pub first_word : (line : List ℕ) (start : ℕ) → position (λ byte. not (is_blank byte)) line ≡ Some start
    → words_of line ≡ before_first is_blank (drop start line) ∷ words_of (after_first is_blank (drop start line))
unfolding words_of
first_word line start found =
    let at = position-Some (λ byte. not (is_blank byte)) line start 0 found in
    words_after_blanks line ∙ rw ((cond_some _ _ _ found).1) (first_part (drop start line) ∙ rw (
      drop-cons line start 0 at.0,
      not-true _ at.1,
      one-add (position_or_len is_blank (drop (suc start) line)),
    ) refl)

-- a line that has no word
pub no_words : (line : List ℕ) → position (λ byte. not (is_blank byte)) line ≡ None → words_of line ≡ []
unfolding words_of
no_words line absent = grind (arith, words_after_blanks, drop_all)

-- there is at most one word more than bytes
pub words_fit : (line : List ℕ) → length (words_of line) ≤ length line + 1
unfolding words_of
words_fit line = grind (arith, common_steps, length-filter, length-slice_split)

pub ruleset word_steps = (first_word, no_words)
