-- 24-bit unsigned integers (OpenType, data types: uint24).
pub mod Laws
use Rattle.std.proofs.Math.Nat.{mod-lt}
use Rattle.std.proofs.Common.{ℕ, ◌%◌, ◌^◌, ◌<◌, Bool, List, pos, lit<}
use Rattle.font_base.specs.{Bytes.numeral, Bytes.bytes_of, declared.uint24.Uint24.Uint24}

-- the value of a `Uint24`
abbrev pub uint24_number : Uint24 → ℕ
uint24_number n = n.value

-- the largest value, 2^24 - 1
abbrev pub UINT24_MAX : ℕ
UINT24_MAX = 16777215

-- the `Uint24` with this value, truncated to 24 bits
unfoldable pub uint24_of : ℕ → Uint24
uint24_of n = record { value = n % 2 ^ 24; in_range = mod-lt n (lit< tt) }

-- the `Uint24` with these three bytes, and the bytes of a `Uint24`
abbrev pub uint24_of_bytes : List ℕ → Uint24
uint24_of_bytes bytes = uint24_of (numeral bytes)

abbrev pub bytes_of_uint24 : Uint24 → List ℕ
bytes_of_uint24 n = bytes_of 3 (pos (uint24_number n))
