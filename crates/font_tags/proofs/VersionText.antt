-- The printed bits of a version.
use Rattle.std.proofs.Common.{◌≡◌, ℕ, false, Some, List, [], ◌++◌, arith, append-nil}
use Rattle.std.specs.Fmt.{digits, digits_output, styled_digits_output, format_spec, padded_integral, char_count}
use Rattle.std.specs.Fmt.{WritesOnOk, DisplaysOnOk, ◌++?◌}
use Rattle.font_tags.specs.Version.{hex_text}

-- what `{:08x}` writes, as a version prints itself
pub hex_padded : (n : ℕ)
    → padded_integral (format_spec 32 0 4 8 18446744073709551615) false [] (digits 16 false n) ≡ hex_text n
unfolding padded_integral char_count
hex_padded n = grind (arith, append-nil)

-- `{:08x}`
pub bits_written : {W : Type 0} (took : W → List ℕ → W → Type 0) (f : _) (r : _) (g : _) (d : _) (s : _) (bits : ℕ)
    (front back : List ℕ)
    → digits_output d ≡ Some (digits 16 false bits) → s ≡ format_spec 32 0 4 8 18446744073709551615
    → DisplaysOnOk took f r (Some front ++? styled_digits_output d s ++? Some back) g
    → WritesOnOk took f r (front ++ (hex_text bits ++ back)) g
bits_written took f r g d s bits front back output spec written = grind (arith, hex_padded)
