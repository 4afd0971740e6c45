-- Lines of words with single spaces.
use Rattle.std.specs.Prelude.{◌≡◌, ◌≢◌, ℕ, ◌<◌, ◌≤◌, ◌==◌, List, ◌++◌, length, All, Result, Ok, Err}
use Rattle.std.specs.{Int.w32, List.AllWithin, List.HoldsAt, List.position_or_len, List.before_first, List.after_first}
use lib.Chars.{codes}
use Rattle.font_types.specs.{Fixed.Fixed, Fixed.fixed_bits, Fixed.fixed_text, Operations.ReadsBits}
use Rattle.font_types.specs.{NumberReading.ParsesFixedPoint, declared.DecimalFault.DecimalFault}
use Rattle.callers.specs.declared.words.{Range.Range, PairFault.PairFault}
use Rattle.callers.specs.declared.words.PairFault.TheVariants.{NoSecond, First, Second}

-- the text has no space
abbrev pub HasNoSpace : List ℕ → Type 0
HasNoSpace text = All (λ byte. byte ≢ 32) text

-- the texts of three numbers, with single spaces
abbrev pub range_text : Range → List ℕ
range_text range =
    fixed_text range.min ++ (codes " " ++ (fixed_text range.default ++ (codes " " ++ fixed_text range.max)))

-- the text is read as a number
pub record IsNumber (text : List ℕ) : Type 0 where
  pub number : Fixed
  pub reads : ReadsBits 32 16 text (fixed_bits number)

-- the index of the first space, or the length
pub record IsWordEnd (text : List ℕ) (end : ℕ) : Type 0 where
  pub within : end ≤ length text
  pub before : AllWithin (λ byte. byte ≢ 32) text 0 end
  pub there : end < length text → HoldsAt (λ byte. byte ≡ 32) text end

-- the words are read as the numbers
pub record AreRead (min default max : List ℕ) (range : Range) : Type 0 where
  pub reads_min : ReadsBits 32 16 min (fixed_bits range.min)
  pub reads_default : ReadsBits 32 16 default (fixed_bits range.default)
  pub reads_max : ReadsBits 32 16 max (fixed_bits range.max)

-- the text is three words with single spaces, which are read as the numbers
pub record AreNumbersOf (text : List ℕ) (range : Range) : Type 0 where
  pub min : List ℕ
  pub default : List ℕ
  pub max : List ℕ
  pub line : text ≡ min ++ (codes " " ++ (default ++ (codes " " ++ max)))
  pub first : HasNoSpace min
  pub second : HasNoSpace default
  pub reads : AreRead min default max range

-- the text is three numbers
pub record IsRange (text : List ℕ) : Type 0 where
  pub range : Range
  pub numbers : AreNumbersOf text range

-- ---- two numbers, with errors

-- the index of the first space, or the length
abbrev pub space_at : List ℕ → ℕ
space_at text = position_or_len (λ byte. byte == 0x20) text

-- the texts before and after the first space
abbrev pub first_word : List ℕ → List ℕ
first_word text = before_first (λ byte. byte == 0x20) text

abbrev pub other_words : List ℕ → List ℕ
other_words text = after_first (λ byte. byte == 0x20) text

-- the text has a space, and these are the parts before and after the first
abbrev pub AreParts : List ℕ → List ℕ → List ℕ → Type 0
AreParts text first rest =
    (space_at text < length text) × ((first ≡ first_word text) × (rest ≡ other_words text))

-- the number that a text is read as, or why it is none
unfoldable pub ParsesNumber : List ℕ → Result Fixed DecimalFault → Type 0
ParsesNumber text result = ParsesFixedPoint w32 16 fixed_bits text result

-- the parts of a text are read as the two numbers
pub record IsPair (text : List ℕ) (pair : Fixed × Fixed) : Type 0 where
  pub divided : space_at text < length text
  pub first : ParsesNumber (first_word text) (Ok pair.0)
  pub second : ParsesNumber (other_words text) (Ok pair.1)

-- two numbers, or the error of the first part that is none
abbrev pub ParsesPair : List ℕ → Result (Fixed × Fixed) PairFault → Type 0
ParsesPair text (Ok pair) = IsPair text pair
ParsesPair text (Err NoSecond) = space_at text ≡ length text
ParsesPair text (Err (First fault)) = (space_at text < length text) × ParsesNumber (first_word text) (Err fault)
ParsesPair text (Err (Second fault)) =
    (space_at text < length text) × (IsNumber (first_word text) × ParsesNumber (other_words text) (Err fault))
