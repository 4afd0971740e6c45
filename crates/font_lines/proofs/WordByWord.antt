-- Reading one word after another: exactly n numbers, or terms of two words; and an integer, digit by digit.
use Rattle.std.proofs.Common.{◌≡◌, List, [], ◌∷◌, ◌++◌, Result, Ok, Err, refl, ◌∙◌, append_assoc, append-nil, ◌≢◌, ℕ, ℤ}
use Rattle.std.proofs.Common.{◌+◌, ◌<◌, arith, length, take, set, ap, length-set, ◌%◌, ◌-◌, ◌*◌, min, get_or}
use Rattle.std.proofs.Common.{if◌then◌else◌, ◌==◌, ◌≤◌, inl, inr, true}
use Rattle.std.proofs.lemmas.Grind.{common_steps}
use Rattle.std.proofs.{lemmas.Bool.cases_Bool, lemmas.List.take_more_set, lemmas.Int.Digits.digits_value_more}
use Rattle.font_lines.specs.Numbers.{CollectsEach, ScansFixed, CollectsFixed, ScansTerm, CollectsTerms, pairs_of}
use Rattle.font_lines.specs.{declared.error.LineError.LineError, declared.error.LineError.TheVariants.WordCount}
use Rattle.font_types.specs.Fixed.{Fixed}
use Rattle.std.specs.{Char.IsAsciiDigit, Str.Parse.digits_value}

-- the words before `left` are read as these values, and the values of `left` complete them
pub record IsReadUpTo {W T : Type 0} (reads : W → Result T LineError → Type 0) (words left : List W)
    (values : List T) : Type 0 where
  pub completes : (more : List T) → CollectsEach reads left (Ok more) → CollectsEach reads words (Ok (values ++ more))
  pub fails : (error : LineError) → CollectsEach reads left (Err error) → CollectsEach reads words (Err error)

module _ {W T : Type 0} (reads : W → Result T LineError → Type 0) (words : List W) where
  module _ (left : List W) (values : List T) (so_far : IsReadUpTo reads words left values) where
    -- one word more is read
    pub one_more_read : (left' : List W) (word : W) (values' : List T) (value : T)
        → left ≡ word ∷ left' → reads word (Ok value) → values' ≡ values ++ value ∷ []
        → IsReadUpTo reads words left' values'
    one_more_read left' word values' value next one grown = grind (arith, append_assoc)

    -- no word is left, and all are read
    pub all_read : (values' : List T) → left ≡ [] → values ≡ values' → CollectsEach reads words (Ok values')
    all_read values' none same = rw (append-nil values ∙ same) at (so_far.completes [] (rw none refl))

-- ---- exactly n numbers
-- of words, those before `left` are read as numbers, which are the first of a list of n
pub record AreNumbersUpTo (n : ℕ) (words left : List (List ℕ)) (numbers : List Fixed) (at : ℕ) : Type 0 where
  pub read : IsReadUpTo ScansFixed words left (take at numbers)
  pub rest : length words ≡ at + length left
  pub within : at ≤ n
  pub whole : length numbers ≡ n

module _ (n : ℕ) (words left : List (List ℕ)) (numbers : List Fixed) (at : ℕ)
    (so_far : AreNumbersUpTo n words left numbers at) where
  module _ (left' : List (List ℕ)) (word : List ℕ) (next : left ≡ word ∷ left') where
    pub one_more_number : (number : Fixed) → ScansFixed word (Ok number) → at < n
        → AreNumbersUpTo n words left' (set numbers at number) (at + 1)
    one_more_number number one room = grind (arith, one_more_read, take_more_set, length-set)

    -- there is no room for the word
    pub too_many : at ≡ n → CollectsFixed n words (Err WordCount)
    too_many full = grind (arith, so_far.rest)

    -- the word is wrong
    pub bad_number : (error : LineError) → ScansFixed word (Err error) → at < n
        → CollectsFixed n words (Err (if length left' == n - at - 1 then error else WordCount))
    bad_number error one room = grind (arith, so_far.rest)

  pub all_numbers : left ≡ [] → at ≡ n → CollectsFixed n words (Ok numbers)
  all_numbers none full = grind (arith, common_steps, all_read)

  pub too_few : left ≡ [] → at ≢ n → CollectsFixed n words (Err WordCount)
  too_few none short = grind (arith, so_far.rest)

pub ruleset number_steps = (one_more_number, too_many, bad_number, all_numbers, too_few)

-- ---- terms, two words at a time
-- the words before `left`, an even number, are read as terms
pub record AreTermsUpTo (words left : List (List ℕ)) (terms : List (Fixed × ℤ)) : Type 0 where
  pub read : IsReadUpTo ScansTerm (pairs_of words) (pairs_of left) terms
  pub rest : length words % 2 ≡ length left % 2

-- a word is wrong, and the words are counted
counted : (words : List (List ℕ)) (rest : ℕ) (error : LineError) → length words % 2 ≡ rest
    → CollectsEach ScansTerm (pairs_of words) (Err error)
    → CollectsTerms words (Err (if rest == 0 then error else WordCount))
counted words rest error same fails = rw same (elim (cases_Bool (rest == 0)) [
  | inl even ↦ rw even fails
  | inr odd ↦ rw odd refl
])

module _ (words left middle : List (List ℕ)) (scalar : List ℕ) (terms : List (Fixed × ℤ))
    (so_far : AreTermsUpTo words left terms) (first : left ≡ scalar ∷ middle) where
  module _ (left' : List (List ℕ)) (delta : List ℕ) (second : middle ≡ delta ∷ left') where
    two : left ≡ scalar ∷ delta ∷ left'
    two = cc

    same_rest : length words % 2 ≡ length left' % 2
    same_rest = omega (arith, so_far.rest, ap length two)

    pub one_more_term : (term : Fixed × ℤ) (terms' : List (Fixed × ℤ)) → ScansTerm (scalar, delta) (Ok term)
        → terms' ≡ terms ++ term ∷ [] → AreTermsUpTo words left' terms'
    one_more_term term terms' one grown = record {
      read = one_more_read ScansTerm _ _ _ so_far.read _ (scalar, delta) terms' term (ap pairs_of two) one grown;
      rest = same_rest;
    }

    -- a word is wrong
    pub bad_term : (error : LineError) → ScansTerm (scalar, delta) (Err error)
        → CollectsTerms words (Err (if length left' % 2 == 0 then error else WordCount))
    bad_term error one = counted words _ error same_rest
        (so_far.read.fails error (rw (ap pairs_of two) (record { first = Err error; is_first = one; goes_on = refl })))

  -- one word is left
  pub half_term : middle ≡ [] → CollectsTerms words (Err WordCount)
  half_term none =
      let odd : length words % 2 ≡ 1 = omega (arith, so_far.rest, ap length first, ap length none) in
      grind (arith, odd)

-- no word is left
pub all_terms : (words left : List (List ℕ)) (terms : List (Fixed × ℤ)) → AreTermsUpTo words left terms → left ≡ []
    → CollectsTerms words (Ok terms)
all_terms words left terms so_far none = grind (arith, all_read)

-- an odd number of words are no terms
pub even_terms : (words : List (List ℕ)) (terms : List (Fixed × ℤ)) → CollectsTerms words (Ok terms)
    → (length words % 2 == 0) ≡ true
even_terms words terms read = grind arith

pub ruleset term_steps = (one_more_term, bad_term, half_term, all_terms)

-- ---- an integer, digit by digit
-- one digit more, where a number above `most` is cut to it
pub bounded_digit_more : (digits : List ℕ) (i n digit most : ℕ) → i < length digits → IsAsciiDigit (get_or digits i 0)
    → n ≡ min (digits_value 10 (take i digits)) most → digit ≡ get_or digits i 0 - 48
    → min (n * 10 + digit) most ≡ min (digits_value 10 (take (i + 1) digits)) most
bounded_digit_more digits i n digit most inside ascii so_far next = grind (arith, digits_value_more)
