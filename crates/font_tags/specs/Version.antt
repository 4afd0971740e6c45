-- Table versions.
pub mod Laws
use Rattle.std.specs.Prelude.{◌≡◌, ℕ, ◌+◌, ◌-◌, ◌*◌, ◌/◌, ◌%◌, ◌≤◌, min, pos, false, List, ◌++◌, length, replicate}
use Rattle.std.specs.Prelude.{take, drop, codes}
use Rattle.std.specs.Fmt.{decimal, digits}
use Rattle.font_base.specs.Bytes.{numeral, bytes_of}
use Rattle.font_tags.specs.{declared.version.Version16Dot16.Version16Dot16, declared.version.MajorMinor.MajorMinor}

-- the 32 bits of a version (OpenType, data types: Version16Dot16, "Packed 32-bit value with major and minor version
-- numbers"), and the version with these bits
abbrev pub version_bits : Version16Dot16 → ℕ
version_bits version = version.0

abbrev pub version_of : ℕ → Version16Dot16
version_of bits = record { 0 = bits }

-- the major number, which is the high half of the bits, and the minor number, which is the highest four bits of the low
-- half (OpenType, table version numbers: 0x00005000 is version 0.5, and 0x00011000 is version 1.1)
abbrev pub version_major : Version16Dot16 → ℕ
version_major version = version_bits version / 65536

abbrev pub version_minor : Version16Dot16 → ℕ
version_minor version = version_bits version % 65536 / 4096

-- the bits of the version with these numbers; a minor number above 9 counts as 9
abbrev pub packed_version : ℕ → ℕ → ℕ
packed_version major minor = major * 65536 + min minor 9 * 4096

-- the text of a version: `major.minor`
abbrev pub version_text : ℕ → ℕ → List ℕ
version_text major minor = decimal major ++ (codes "." ++ decimal minor)

-- 32 bits as eight lowercase hexadecimal digits, with leading zeros
abbrev pub hex_text : ℕ → List ℕ
hex_text bits = let shown = digits 16 false bits in replicate (8 - length shown) 48 ++ shown

-- the four bytes of a version, two for each number, the major number first; and the version with these bytes
abbrev pub major_minor_bytes : MajorMinor → List ℕ
major_minor_bytes version = bytes_of 2 (pos version.major) ++ bytes_of 2 (pos version.minor)

abbrev pub major_minor_of : List ℕ → MajorMinor
major_minor_of bytes = record { major = numeral (take 2 bytes); minor = numeral (drop 2 bytes) }

-- a table of this version has every field that a reader of the other needs: the major numbers are equal, and this minor
-- number is at least the other's (own)
pub record IsCompatible (major minor other_major other_minor : ℕ) : Type 0 where
  pub same_major : major ≡ other_major
  pub minor_at_least : other_minor ≤ minor
