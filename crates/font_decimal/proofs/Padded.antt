-- A padded text, piece by piece.
use Rattle.std.proofs.Common.{◌≡◌, ◌≢◌, ℕ, ◌+◌, ◌<◌, ◌≤◌, Bool, false, List, [], ◌∷◌, ◌++◌, length, get_or, take, drop}
use Rattle.std.proofs.Common.{refl, sym, ◌∙◌, arith, append_assoc, length-append, max, None, append-nil, take_at}
use Rattle.std.proofs.Common.{drop_at, drop-drop, eqb}
use Rattle.std.proofs.lemmas.List.{drop_all, length-replicate}
use Rattle.std.proofs.{lemmas.Bool.Decides.nat_tests, lemmas.Str.Pattern.strip_prefix_char}
use Rattle.std.specs.Fmt.{spec_width, spec_sign_plus, padded_integral, sign_text}
use Rattle.std.specs.{Str.Pattern.FindsCharPrefix, Option.is_some}
use Rattle.font_decimal.specs.Padding.{has_minus, shown_sign, unsigned_body, spare_in_front, laid_out, padded_text}
use Rattle.font_decimal.specs.Padding.{FillsFront}
use Rattle.font_decimal.specs.{declared.padding.Align.Align, declared.padding.Pad.Pad}

-- a text that does not begin with `-`
no_minus_test : (text : List ℕ) → ((rest : List ℕ) → text ≢ 45 ∷ rest) → eqb (get_or text 0 0) 45 ≡ false
no_minus_test [] h = refl
no_minus_test (c ∷ cs) h = grind (arith, nat_tests, h cs)

pub no_minus_found : (text : List ℕ) → FindsCharPrefix 45 text None → eqb (get_or text 0 0) 45 ≡ false
no_minus_found text none = no_minus_test text (strip_prefix_char 45 text None none (omega arith))

front_within : (align : Align) (spare : ℕ) → spare_in_front align spare ≤ spare
front_within align spare = grind (arith, nat_tests)

laid_length : (pad : Pad) (sign body : List ℕ) (spare : ℕ) → length (laid_out pad sign body spare) ≡ length sign
    + length body + spare
laid_length pad sign body spare = grind (arith, nat_tests, front_within, length-append, length-replicate)

-- a padded text has the requested width, or the text's length if that is greater
pub padded_length : (text : List ℕ) (pad : Pad) → length (padded_text text pad) ≡ max
    (length (shown_sign pad.plus text) + length (unsigned_body text)) pad.width
unfolding padded_text
padded_length text pad = grind (arith, nat_tests, laid_length)

-- bytes that are appended
pub put_after : {done old out new : List ℕ} {at n end : ℕ} (bytes : List ℕ) → FillsFront done at old out
    → length bytes ≡ n → end ≡ at + n
    → new ≡ take at out ++ (bytes ++ drop (at + n) out) → FillsFront (done ++ bytes) end old new
put_after {done = done} {old = old} {out = out} {at = at} {n = n} bytes front long last e =
    let count = front.count in
    let taken : take at out ≡ done = rw front.bytes (take_at _ _ _ (sym count)) in
    let after : drop at out ≡ drop at old = rw front.bytes (drop_at _ _ _ (sym count)) in
    record {
      count = omega (arith, length-append done bytes);
      bytes = e ∙ rw (taken, ← drop-drop n at out, after, drop-drop n at old, last, append_assoc done bytes);
    }

pub nothing_yet : (old : List ℕ) → FillsFront [] 0 old old
nothing_yet old = record { count = refl; bytes = refl }

shown_sign_length : (plus : Bool) (text : List ℕ) → length (shown_sign plus text) ≤ 1
shown_sign_length plus text = grind (arith, nat_tests)

-- a text whose body is shorter than a buffer fits in it, padded, if the buffer has the requested width: a sign has one
-- byte
pub padded_fits : (text : List ℕ) (pad : Pad) (room n : ℕ) → length (unsigned_body text) < room → max room pad.width ≤ n
    → length (padded_text text pad) ≤ n
padded_fits text pad room n short enough = omega (arith, padded_length text pad, shown_sign_length pad.plus text)

-- a list no longer than the width that a padded text fills is that text
pub fills_all : {n : ℕ} {old new : List ℕ} (text : List ℕ) (pad : Pad) → FillsFront (padded_text text pad) n old new
    → length old ≤ pad.width → new ≡ padded_text text pad
fills_all {n = n} {old = old} text pad front narrow =
    front.bytes ∙ rw (drop_all n old (omega (arith, padded_length text pad, front.count)), append-nil)

-- a text is its sign and its body
sign_and_body : (text : List ℕ) → sign_text (has_minus text) ++ unsigned_body text ≡ text
sign_and_body [] = refl
sign_and_body (c ∷ cs) = grind (arith, nat_tests)

-- with no width and no `+`, a number is its text
pub bare_number : (s : _) (text : List ℕ) → is_some (spec_width s) ≡ false → spec_sign_plus s ≡ false
    → padded_integral s (has_minus text) [] (unsigned_body text) ≡ text
unfolding padded_integral
bare_number s text width plus = grind (arith, nat_tests, append-nil, sign_and_body text)
