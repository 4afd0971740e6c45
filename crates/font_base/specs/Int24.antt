-- 24-bit signed integers (OpenType, data types: int24).
pub mod Laws
use Rattle.std.proofs.Common.{ℕ, ℤ, pos, neg_ℤ, List, lit<}
use Rattle.font_base.specs.Bytes.{bytes_of, signed_numeral}
use Rattle.font_base.specs.{Wrap.wrap, Wrap.Laws.wrap_is, declared.int24.Int24.Int24}

-- the value of an `Int24`
abbrev pub int24_number : Int24 → ℤ
int24_number n = n.value

-- the smallest value, -2^23, and the largest, 2^23 - 1
abbrev pub INT24_MIN : ℤ
INT24_MIN = neg_ℤ (pos 8388608)

abbrev pub INT24_MAX : ℤ
INT24_MAX = pos 8388607

-- the `Int24` with this value, wrapped to 24 bits
unfoldable pub int24_of : ℤ → Int24
int24_of z =
    let fits = (wrap_is 24 z (lit< tt)).fits in record { value = wrap 24 z; low = fits.low; high = fits.high }

-- the `Int24` with these three bytes, and the bytes of an `Int24`
abbrev pub int24_of_bytes : List ℕ → Int24
int24_of_bytes bytes = int24_of (signed_numeral 3 bytes)

abbrev pub bytes_of_int24 : Int24 → List ℕ
bytes_of_int24 n = bytes_of 3 (int24_number n)
