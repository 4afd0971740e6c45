-- The number of digits that are joined or split.
use Rattle.std.proofs.Common.{◌≡◌, ℕ, zero, suc, ◌+◌, ◌-◌, ◌*◌, ◌^◌, ◌<◌, List, [], ◌∷◌, ◌++◌, length, take, drop, refl}
use Rattle.std.proofs.Common.{◌∙◌, arith, rules, get_or, true, pow-suc}
use Rattle.std.proofs.lemmas.Str.Parse.{IsNumeralModel, numerals_by_value}
use Rattle.std.proofs.{lemmas.Int.Digits.digits_value_more, lemmas.Str.digit_value_digit}
use Rattle.std.specs.Char.{digit_value, is_ascii_digit, IsAsciiDigit}
use Rattle.std.specs.{Str.Parse.digits_value, Str.Parse.digits_value_after, Str.Parse.AllDigits, List.list_all}

-- digits after a number multiply it by ten for each digit
pub after_is : (n : ℕ) (cs : List ℕ) → digits_value_after 10 n cs ≡ n * 10 ^ length cs + digits_value 10 cs
after_is n [] = omega arith
after_is n (c ∷ cs) =
    rw (after_is (n * 10 + digit_value c) cs, after_is (0 * 10 + digit_value c) cs, pow-suc 10 (length cs))
    (omega arith)

-- digits can be read in two parts
after-append : (n : ℕ) (xs ys : List ℕ) → digits_value_after 10 n (xs ++ ys) ≡ digits_value_after 10
    (digits_value_after 10 n xs) ys
after-append n [] ys = refl
after-append n (x ∷ xs) ys = after-append (n * 10 + digit_value x) xs ys

-- the number of joined digits
pub digits_value-append : (xs ys : List ℕ) → digits_value 10 (xs ++ ys) ≡ digits_value 10 xs * 10 ^ length ys
    + digits_value 10 ys
digits_value-append xs ys = after-append 0 xs ys ∙ after_is (digits_value 10 xs) ys

-- digits without some from either end are digits
pub digits_parts : (n : ℕ) (xs : List ℕ) → AllDigits 10 xs → AllDigits 10 (take n xs) × AllDigits 10 (drop n xs)
digits_parts zero xs p = (tt, p)
digits_parts (suc n) [] p = (tt, tt)
digits_parts (suc n) (x ∷ xs) p = let rest = digits_parts n xs p.1 in ((p.0, rest.0), rest.1)

-- and digits after digits are digits
pub digits-append : (xs ys : List ℕ) → AllDigits 10 xs → AllDigits 10 ys → AllDigits 10 (xs ++ ys)
digits-append [] ys p q = q
digits-append (x ∷ xs) ys p q = (p.0, digits-append xs ys p.1 q)

-- digits are recognized by a test of each byte
pub by_test : IsNumeralModel (λ ds. list_all is_ascii_digit ds ≡ true) (digits_value 10)
by_test = numerals_by_value _ (search rules)

-- one digit more
pub one_digit_more : (xs : List ℕ) (i : ℕ) → i < length xs → IsAsciiDigit (get_or xs i 0)
    → digits_value 10 (take (i + 1) xs) ≡ digits_value 10 (take i xs) * 10 + (get_or xs i 0 - 48)
one_digit_more xs i low ascii = omega (arith, digits_value_more 10 xs i low, digit_value_digit (get_or xs i 0) ascii)
