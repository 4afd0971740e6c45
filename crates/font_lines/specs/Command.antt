-- The commands of the program: the word that names each, and what it answers to the words after
-- it.
-- All of it is the program's own rule, but for what the bytes of a type mean.
use Rattle.std.specs.Prelude.{◌≡◌, ◌≢◌, ℕ, ℤ, pos, ◌/◌, Bool, true, false, if◌then◌else◌, List, [], ◌∷◌, ◌++◌, codes}
use Rattle.std.specs.Prelude.{decimal, Result, Ok, Err, MatchResult}
use Rattle.std.specs.{Fmt.signed_decimal, Result.result_flatten, Result.result_map_both}
use Rattle.hex.specs.Hex.{decode_sized, encode_lower}
use Rattle.font_types.specs.InvalidTag.TheVariants.{InvalidLength, InvalidByte, ByteAfterSpace}
use Rattle.font_types.specs.{Bytes.numeral, Bytes.signed_numeral, Bytes.bytes_of, DecimalFault.DecimalFault}
use Rattle.font_types.specs.{Shortest.shortest_text, Tag.IsValidated, Tag.tag_text, InvalidTag.InvalidTag}
use Rattle.font_lines.specs.Numbers.{AndThen, CollectsFixed, ScansNumber, CollectsTerms}
use Rattle.font_lines.specs.declared.command.Command.TheVariants.{Integer, FixedPoint, Read, Tag, Image, Sum, Vary}
use Rattle.font_lines.specs.{Error.Answer, Error.line_error_of, Deltas.ShowsSum, Deltas.Varies, Images.ShowsImages}
use Rattle.font_lines.specs.{declared.command.Command.Command, declared.command.FixedType.FixedType}
use Rattle.font_lines.specs.declared.command.FixedType.TheVariants as types
use Rattle.font_lines.specs.declared.command.IntegerType.TheVariants.{Uint8, Int8, Uint16, Int16, Uint24, Int24, Uint32}
use Rattle.font_lines.specs.declared.command.IntegerType.TheVariants.{Int32, Int64}
use Rattle.font_lines.specs.declared.error.LineError.TheVariants.{UnknownCommand, WordCount, NotHexadecimal}
use Rattle.font_lines.specs.{declared.command.IntegerType.IntegerType, declared.error.LineError.LineError}

-- ---- the commands

-- whether a type's bytes are read as two's complement
abbrev pub unsigned_bytes : Bool
unsigned_bytes = false

abbrev pub signed_bytes : Bool
signed_bytes = true

-- the integer types: the word that names each, how many bytes it has, and whether these have a sign
-- (OpenType, data types: uint8 to int64)
abbrev pub integer_row : IntegerType → List ℕ × ℕ × Bool
integer_row Uint8 = (codes "uint8", 1, unsigned_bytes)
integer_row Int8 = (codes "int8", 1, signed_bytes)
integer_row Uint16 = (codes "uint16", 2, unsigned_bytes)
integer_row Int16 = (codes "int16", 2, signed_bytes)
integer_row Uint24 = (codes "uint24", 3, unsigned_bytes)
integer_row Int24 = (codes "int24", 3, signed_bytes)
integer_row Uint32 = (codes "uint32", 4, unsigned_bytes)
integer_row Int32 = (codes "int32", 4, signed_bytes)
integer_row Int64 = (codes "int64", 8, signed_bytes)

-- the fixed-point types: the word that names each, how many bits it has, and how many of them
-- are its fraction
-- (OpenType, data types: Fixed is 16.16 and F2DOT14 is 2.14)
abbrev pub fixed_row : FixedType → List ℕ × ℕ × ℕ
fixed_row types.F2Dot14 = (codes "f2dot14", 16, 14)
fixed_row types.F4Dot12 = (codes "f4dot12", 16, 12)
fixed_row types.F6Dot10 = (codes "f6dot10", 16, 10)
fixed_row types.Fixed = (codes "fixed", 32, 16)
fixed_row types.F26Dot6 = (codes "f26dot6", 32, 6)
fixed_row types.F48Dot16 = (codes "f48dot16", 64, 16)
fixed_row types.F2Dot30 = (codes "f2dot30", 32, 30)

-- the word that names a command
abbrev pub name_of : Command → List ℕ
name_of (Integer type) = (integer_row type).0
name_of (FixedPoint type) = (fixed_row type).0
name_of Read = codes "read"
name_of Tag = codes "tag"
name_of Image = codes "image"
name_of Sum = codes "sum"
name_of Vary = codes "vary"

-- the command is the one that a word names, or there is none
abbrev pub IsNamed : List ℕ → Result Command LineError → Type 0
IsNamed word (Ok command) = name_of command ≡ word
IsNamed word (Err error) =
    (error ≡ UnknownCommand) × ((command : Command) → name_of command ≢ word)

-- the fixed-point type is the one that a word names, or there is none
abbrev pub IsNamedType : List ℕ → Result FixedType LineError → Type 0
IsNamedType word (Ok type) = (fixed_row type).0 ≡ word
IsNamedType word (Err error) =
    (error ≡ UnknownCommand) × ((type : FixedType) → (fixed_row type).0 ≢ word)

-- ---- what a command answers to the words after it

-- the word of a command that takes one
abbrev pub only_word : List (List ℕ) → Result (List ℕ) LineError
only_word (word ∷ []) = Ok word
only_word words = Err WordCount

-- the n bytes that a word writes in hexadecimal digits of either case
abbrev pub hexadecimal : ℕ → List ℕ → Result (List ℕ) LineError
hexadecimal n word =
    result_map_both (λ bytes. bytes) (λ fault. NotHexadecimal) (decode_sized word n)

-- the n bytes that the only word writes
abbrev pub only_bytes : ℕ → List (List ℕ) → Result (List ℕ) LineError
only_bytes n words =
    result_flatten (result_map_both (hexadecimal n) (λ error. error) (only_word words))

-- the two words of a command that takes two
abbrev pub two_words : List (List ℕ) → Result (List ℕ × List ℕ) LineError
two_words (first ∷ second ∷ []) = Ok (first, second)
two_words words = Err WordCount

-- the number that n bytes encode: their base-256 numeral, highest byte first, in two's
-- complement where they have a sign
abbrev pub number_of : ℕ → Bool → List ℕ → ℤ
number_of n sign bytes = if sign then signed_numeral n bytes else pos (numeral bytes)

-- the number of an integer type that the bytes of a word encode
abbrev pub integer : IntegerType → List (List ℕ) → Result ℤ LineError
integer type words =
    let n = (integer_row type).1 in
    result_map_both (number_of n (integer_row type).2) (λ error. error) (only_bytes n words)

-- the text of the fixed-point number whose bits the bytes of a word are
abbrev pub fixed_point : FixedType → List (List ℕ) → Answer
fixed_point type words =
    let n = (fixed_row type).1 / 8 in
    let text : List ℕ → List ℕ =
    λ bytes. shortest_text (signed_numeral n bytes) (fixed_row type).2 in
    result_map_both text (λ error. error) (only_bytes n words)

-- the answer is the bytes, in hexadecimal digits, of a number that was read
pub record ShowsBytes {T : Type 0} (raw_of : T → List ℕ) (number : Result T DecimalFault)
    (answer : Answer) : Type 0 where
  pub is : answer ≡ result_map_both (λ value. encode_lower (raw_of value)) line_error_of number

-- the answer is the bytes, in hexadecimal digits, of the number of a type that the text is read as
abbrev pub ShowsParsed : FixedType → List ℕ → Answer → Type 0
ShowsParsed type text answer =
    let w = (fixed_row type).1 in
    ScansNumber w (fixed_row type).2 (λ b. encode_lower (bytes_of (w / 8) b)) text answer

-- the text after a tag: that it is valid, or the fault that it has, and where it has it
abbrev pub validation_text : Result (Unit {0}) InvalidTag → List ℕ
validation_text (Ok good) = codes " valid"
validation_text (Err (InvalidLength n)) = codes " length"
validation_text (Err (InvalidByte index byte)) = codes " byte " ++ decimal index
validation_text (Err (ByteAfterSpace index)) = codes " space " ++ decimal index

-- the answer is the text of the tag of four bytes, and the result of its validation
pub record ReportsTag (bytes : List ℕ) (answer : Answer) : Type 0 where
  pub validation : Result (Unit {0}) InvalidTag
  pub is_validation : IsValidated bytes validation
  pub shows : answer ≡ Ok (tag_text bytes ++ validation_text validation)

-- The answer of a command to the words after it. Their number is checked first, and then each of
-- them from left to right.
abbrev pub AnswersWords : List (List ℕ) → Command → Answer → Type 0
AnswersWords words (Integer type) answer =
    answer ≡ result_map_both signed_decimal (λ error. error) (integer type words)
AnswersWords words (FixedPoint type) answer = answer ≡ fixed_point type words
AnswersWords words Read answer =
    MatchResult (two_words words)
    (λ pair. AndThen (IsNamedType pair.0) (λ type. ShowsParsed type pair.1) answer)
    (λ error. answer ≡ Err error)
AnswersWords words Tag answer =
    MatchResult (only_bytes 4 words)
    (λ bytes. ReportsTag bytes answer)
    (λ error. answer ≡ Err error)
AnswersWords words Image answer = AndThen (CollectsFixed 14 words) ShowsImages answer
AnswersWords words Sum answer = AndThen (CollectsTerms words) ShowsSum answer
AnswersWords words Vary answer = Varies words answer

-- the answer to the words of a line: the first of them names the command
abbrev pub IsAnswer : List (List ℕ) → Answer → Type 0
IsAnswer [] answer = answer ≡ Err UnknownCommand
IsAnswer (name ∷ words) answer = AndThen (IsNamed name) (AnswersWords words) answer
