-- The text of a number has no space, and a word without a space ends at the first one.
use Rattle.std.proofs.Common.{◌≡◌, ◌≢◌, ◌∙◌, sym, ap, ◌<◌, ◌+◌, ℕ, suc, List, [], ◌∷◌, ◌++◌, length, take, get_or}
use Rattle.std.proofs.Common.{arith, true, false, Bool}
use Rattle.std.proofs.lemmas.List.{length-append, length-take-le, get_or-take}
use Rattle.std.proofs.lemmas.List.Elements.{All-same, All-append, All-from_get_or, All-nil, All-cons}
use Rattle.std.proofs.lemmas.{List.Prefix.front_reads, Str.Parse.digit_at}
use Rattle.std.proofs.Math.Seq.{get_or-append_seam}
use Rattle.std.specs.{Fmt.sign_text, Str.Parse.AllDigits}
use Rattle.font_types.specs.Grammar.{HasParts, fraction_text}
use Rattle.callers.specs.Words.{HasNoSpace, IsWordEnd}

abbrev is_no_space : ℕ → Type 0
is_no_space byte = byte ≢ 32

of_digits : (digits : List ℕ) → AllDigits 10 digits → HasNoSpace digits
of_digits digits are = All-from_get_or is_no_space digits 0
    (λ i within. let digit = digit_at digits i are within in omega (arith, digit.0, digit.1))

of_sign : (is_negative : Bool) → HasNoSpace (sign_text is_negative)
of_sign true = All-cons is_no_space 45 [] (omega arith) (All-nil is_no_space)
of_sign false = All-nil is_no_space

of_fraction : (digits : List ℕ) → AllDigits 10 digits → HasNoSpace (fraction_text digits)
of_fraction [] are = All-nil is_no_space
of_fraction (digit ∷ digits) are =
    All-cons is_no_space 46 (digit ∷ digits) (omega arith) (of_digits (digit ∷ digits) are)

-- a decimal has no space
pub of_decimal : (text : List ℕ) (is_negative : Bool) (whole fraction : List ℕ)
    → HasParts text is_negative whole fraction → HasNoSpace text
of_decimal text is_negative whole fraction parts =
    All-same is_no_space text (sign_text is_negative ++ (whole ++ fraction_text fraction)) parts.written
    (All-append is_no_space (sign_text is_negative) (whole ++ fraction_text fraction) (of_sign is_negative)
    (All-append is_no_space whole (fraction_text fraction) (of_digits whole parts.whole_digits.1)
    (of_fraction fraction parts.fraction_digits)))

-- no byte before the first space is one
pub before_end : (text : List ℕ) (end : ℕ) → IsWordEnd text end → HasNoSpace (take end text)
before_end text end is = All-from_get_or is_no_space (take end text) 0 (λ i within same.
    let before : i < end = omega (arith, within, length-take-le end text is.within) in
    is.before i 0 (omega arith) before (sym (get_or-take end text i 0 before) ∙ same))

-- the first space of a text is that behind its first word
pub end_is : (text word rest : List ℕ) (end : ℕ) → IsWordEnd text end → HasNoSpace word
    → text ≡ word ++ (32 ∷ rest) → end ≡ length word
end_is text word rest end is no_space split =
    let long : length text ≡ length word + suc (length rest) = ap length split ∙ length-append word (32 ∷ rest) in
    let seam : get_or text (length word) 0 ≡ 32 =
    ap (λ t. get_or t (length word) 0) split ∙ get_or-append_seam word 32 rest 0 in
    let early : end < length word → ⊥ = λ less. no_space end 0 less
    (sym (front_reads 0 text word (32 ∷ rest) split end less) ∙ is.there (omega (arith, less, long)) 0) in
    let late : length word < end → ⊥ = λ more. is.before (length word) 0 (omega arith) more seam in
    omega (arith, early, late)
