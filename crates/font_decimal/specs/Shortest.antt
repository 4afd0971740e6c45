-- The shortest decimal of b / 2^f: of all that parse back to b, the nearest with the fewest fractional digits.
use Rattle.std.specs.Prelude.{ℕ, zero, suc, ◌+◌, ◌*◌, ◌/◌, ◌%◌, ◌^◌, ◌<◌, Bool, List, [], ◌∷◌, ◌++◌, ℤ, pos, ◌*ℤ◌}
use Rattle.std.specs.Prelude.{unsigned_abs, nat_lt, if◌then◌else◌}
use Rattle.std.specs.{Int.is_negative, Int.abs_diff, Fmt.decimal, Fmt.sign_text}
use Rattle.font_decimal.specs.{Near.Near, Near.near_magnitude, Grammar.Plain, Grammar.fraction_text, Reading.Rounds}

-- the text is plain and parses back to b; no decimal with as many places is nearer to b / 2^f; and no decimal with
-- fewer places, however it is written, rounds to b
pub record IsShortest (b : ℤ) (f : ℕ) (text : List ℕ) : Type 0 where
  pub numeral : ℤ
  pub places : ℕ
  pub plain : Plain text numeral places
  pub rounds : Rounds text f b
  pub nearest : Near (b *ℤ pos (10 ^ places)) (2 ^ f) numeral
  pub fewest : (j : ℕ) (m : ℤ) → j < places → ¬ (Near (m *ℤ pos (2 ^ f)) (10 ^ j) b)

-- the nearest decimal of m / 2^f with p places, times 10^p
abbrev pub nearest_numeral : ℕ → ℕ → ℕ → ℕ
nearest_numeral m f p = near_magnitude (m * 10 ^ p) (2 ^ f)

-- that decimal is less than half a unit of the raw value from m / 2^f
unfoldable pub reads_back : ℕ → ℕ → ℕ → Bool
reads_back m f p = nat_lt (2 * abs_diff (nearest_numeral m f p * 2 ^ f) (m * 10 ^ p)) (10 ^ p)

-- the first number of places from p on, within a limit, whose nearest decimal parses back
abbrev pub places_from : ℕ → ℕ → ℕ → ℕ → ℕ
places_from m f zero p = p
places_from m f (suc left) p = if reads_back m f p then p else places_from m f left (p + 1)

-- the fewest places with which a decimal of m / 2^f parses back: with f places it is exact
unfoldable pub fewest_places : ℕ → ℕ → ℕ
fewest_places m f = places_from m f f 0

-- the last p digits of n
abbrev pub last_digits : ℕ → ℕ → List ℕ
last_digits zero n = []
last_digits (suc p) n = (48 + n / 10 ^ p % 10) ∷ last_digits p n

-- n / 10^p with p digits after the point
abbrev pub decimal_text : ℕ → ℕ → List ℕ
decimal_text n p = decimal (n / 10 ^ p) ++ fraction_text (last_digits p n)

-- the shortest decimal of b / 2^f
unfoldable pub shortest_text : ℤ → ℕ → List ℕ
shortest_text b f =
    let places = fewest_places (unsigned_abs b) f in
    sign_text (is_negative b) ++ decimal_text (nearest_numeral (unsigned_abs b) f places) places
