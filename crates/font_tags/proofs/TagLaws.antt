-- Laws of tags: `validate` and `new_checked` agree, and a printed text is that of one tag alone.
use Rattle.std.proofs.Common.{◌≡◌, ◌≢◌, sym, ap, refl, ℕ, suc, ◌/◌, ◌%◌, ◌<◌, ◌≤◌, ◌⊎◌, inl, inr, true, IsTrue, List}
use Rattle.std.proofs.Common.{[], ◌∷◌, ◌++◌, length, get_or, Result, Ok, IsOk, ◌↔◌, IsUtf8, arith, rules, append-nil}
use Rattle.std.proofs.lemmas.Grind.{common_steps}
use Rattle.std.proofs.{lemmas.Bool.Decides.nat_tests, lemmas.List.get_or_past, lemmas.Str.IsUtf8-from_ascii}
use Rattle.std.specs.{List.AllByRecursion, Fmt.digit_glyph}
use Rattle.font_base.specs.{Bytes.are_bytes, Bytes.Laws.are_bytes-length}
use Rattle.font_tags.specs.Tag.{tag_bytes, tag_of, filled, IsGood, IsChecked, IsValidated, byte_text, tag_text}
use Rattle.font_tags.specs.{declared.tag.Tag.Tag, declared.tag.InvalidTag.InvalidTag}
use Rattle.font_tags.proofs.{Good.tag_judgements, Good.to_good, TagText.IsHidden, TagText.byte_text-hidden}

-- ---- validation

-- `validate` accepts exactly good bytes
pub validated_good : (bytes : List ℕ) (validated : Result (Unit {0}) InvalidTag) → IsValidated bytes validated
    → IsOk validated ↔ IsGood bytes
validated_good bytes result judged = grind (arith, common_steps, tag_judgements)

-- and so does `new_checked`, of as many bytes as a tag may have
pub checked_good : (bytes : List ℕ) (checked : Result Tag InvalidTag) → 0 < length bytes → length bytes ≤ 4
    → IsChecked bytes checked → IsOk checked ↔ IsGood bytes
checked_good bytes checked some few judged = grind (arith, nat_tests, tag_judgements)

-- a tag validates if and only if its four bytes are accepted
pub validates_where_checked : (tag : Tag) (checked : Result Tag InvalidTag) (validated : Result (Unit {0}) InvalidTag)
    → IsTrue (are_bytes 4 (tag_bytes tag))
    → IsChecked (tag_bytes tag) checked → IsValidated (tag_bytes tag) validated → IsOk validated ↔ IsOk checked
validates_where_checked tag checked validated are first second = grind (arith, validated_good, checked_good)

-- ---- good bytes are text: each is below 0x80

pub good_is_utf8 : (bytes : List ℕ) → IsGood bytes → IsUtf8 bytes
good_is_utf8 bytes good = let to = to_good bytes good in
    IsUtf8-from_ascii bytes (λ i. grind (arith, to, get_or_past bytes i 0))

pub ruleset tag_calls = (good_is_utf8)

-- ---- the printed text

abbrev IsShown : ℕ → Type 0
IsShown byte = (0x20 ≤ byte) × (byte ≤ 0x7E)

shown_or_hidden : (byte : ℕ) → IsShown byte ⊎ IsHidden byte
shown_or_hidden byte = grind arith

byte_text-shown : (byte : ℕ) → IsShown byte → byte_text byte ≡ byte ∷ []
byte_text-shown byte shown = grind (arith, nat_tests)

-- printable bytes print as they are
all_shown : (bytes : List ℕ) → ((i : ℕ) → i < length bytes → IsShown (get_or bytes i 0)) → tag_text bytes ≡ bytes
all_shown [] each = refl
all_shown (byte ∷ bytes) each =
    let first = byte_text-shown byte (each 0 (omega arith)) in
    let rest = all_shown bytes (λ i below. each (suc i) (omega (arith, below))) in
    grind (arith, first, rest)

pub good_prints_itself : (bytes : List ℕ) → IsGood bytes → tag_text bytes ≡ bytes
good_prints_itself bytes good =
    let to = to_good bytes good in all_shown bytes (λ i below. grind (arith, to))

-- four bytes need no padding
unpadded : (bytes : List ℕ) → length bytes ≡ 4 → filled bytes ≡ bytes
unpadded bytes many = grind (arith, append-nil)

-- a valid tag parses from its text
pub parsed_again : (tag : Tag) (checked : Result Tag InvalidTag) → IsTrue (are_bytes 4 (tag_bytes tag))
    → IsGood (tag_bytes tag) → IsChecked (tag_text (tag_bytes tag)) checked → checked ≡ Ok tag
parsed_again tag checked are good judged =
    let same = good_prints_itself (tag_bytes tag) good in
    let whole = rw same at judged in
    grind (arith, nat_tests, tag_judgements, are_bytes-length, unpadded)

-- two hexadecimal digits are equal if their glyphs are, and neither glyph is a brace
same_glyph : (c d : ℕ) → c < 16 → d < 16 → digit_glyph true c ≡ digit_glyph true d → c ≡ d
same_glyph c d small_c small_d same = grind (arith, nat_tests)

no_brace : (d : ℕ) → d < 16 → digit_glyph true d ≢ 123
no_brace d small = grind (arith, nat_tests)

-- characters other than braces are printable bytes
plain_after : (bytes plain text : List ℕ) → AllByRecursion (λ c. c ≢ 123) plain → tag_text bytes ≡ plain ++ text
    → length plain ≤ length bytes
plain_after bytes [] text all is = omega arith
plain_after [] (c ∷ plain) text all is = absurd (cc)
plain_after (byte ∷ bytes) (c ∷ plain) text all is = elim (shown_or_hidden byte) [
  | inl shown ↦
      let whole = rw (byte_text-shown byte shown) at is in
      omega (arith, plain_after bytes plain text all.1 (cc))
  | inr hidden ↦ let whole = rw (byte_text-hidden byte hidden) at is in absurd (all.0 (cc))
]

-- a printable byte before few bytes is not the text of a byte that is not printable
shown_not_hidden : (x y : ℕ) (xs ys : List ℕ) → IsShown x → IsHidden y → y < 256 → length xs ≤ 3
    → tag_text (x ∷ xs) ≡ tag_text (y ∷ ys) → ⊥
shown_not_hidden x y xs ys shown hidden small few same =
    let whole = rw (byte_text-shown x shown, byte_text-hidden y hidden) at same in
    let plain = 48 ∷ 120 ∷ digit_glyph true (y / 16) ∷ digit_glyph true (y % 16) ∷ [] in
    omega (arith, plain_after xs plain (125 ∷ tag_text ys) (search (rules, no_brace)) (cc))

-- at most four bytes are determined by their text
same_bytes : (xs ys : List ℕ) → length xs ≤ 4 → length xs ≡ length ys
    → ((i : ℕ) → get_or xs i 0 < 256) → ((i : ℕ) → get_or ys i 0 < 256) → tag_text xs ≡ tag_text ys → xs ≡ ys
same_bytes [] [] few many bytes_x bytes_y same = refl
same_bytes [] (y ∷ ys) few many bytes_x bytes_y same = absurd (omega arith)
same_bytes (x ∷ xs) [] few many bytes_x bytes_y same = absurd (omega arith)
same_bytes (x ∷ xs) (y ∷ ys) few many bytes_x bytes_y same =
    let rest : tag_text xs ≡ tag_text ys → xs ≡ ys = same_bytes xs ys (omega arith) (omega arith)
    (λ i. bytes_x (suc i)) (λ i. bytes_y (suc i)) in
    elim (shown_or_hidden x) [
      | inl shown_x ↦ elim (shown_or_hidden y) [
        | inl shown_y ↦
            let whole = rw (byte_text-shown x shown_x, byte_text-shown y shown_y) at same in
            let first : x ≡ y = cc in
            let others = rest (cc) in
            cc
        | inr hidden_y ↦ absurd (shown_not_hidden x y xs ys shown_x hidden_y (bytes_y 0) (omega arith) same)
      ]
      | inr hidden_x ↦ elim (shown_or_hidden y) [
        | inl shown_y ↦ absurd (shown_not_hidden y x ys xs shown_y hidden_x (bytes_x 0) (omega arith) (sym same))
        | inr hidden_y ↦
            let small_x : x < 256 = bytes_x 0 in
            let small_y : y < 256 = bytes_y 0 in
            let whole = rw (byte_text-hidden x hidden_x, byte_text-hidden y hidden_y) at same in
            let high : x / 16 ≡ y / 16 = same_glyph (x / 16) (y / 16) (omega arith) (omega arith) (cc) in
            let low : x % 16 ≡ y % 16 = same_glyph (x % 16) (y % 16) (omega arith) (omega arith) (cc) in
            let first : x ≡ y = omega (arith, high, low) in
            let others = rest (cc) in
            cc
      ]
    ]

each_byte : (n : ℕ) (bytes : List ℕ) → IsTrue (are_bytes n bytes) → (i : ℕ) → get_or bytes i 0 < 256
each_byte n bytes are i = grind (arith, common_steps)

-- two tags with the same printed text are equal
pub printed_once : (a b : Tag) → IsTrue (are_bytes 4 (tag_bytes a)) → IsTrue (are_bytes 4 (tag_bytes b))
    → tag_text (tag_bytes a) ≡ tag_text (tag_bytes b) → a ≡ b
printed_once a b are_a are_b same =
    let many_a = are_bytes-length 4 (tag_bytes a) are_a in
    let many_b = are_bytes-length 4 (tag_bytes b) are_b in
    ap tag_of (same_bytes (tag_bytes a) (tag_bytes b) (omega arith) (omega arith) (each_byte 4 (tag_bytes a) are_a)
    (each_byte 4 (tag_bytes b) are_b) same)
