-- Dumps of font values.
use Rattle.std.specs.Prelude.{◌≡◌, ◌⊎◌, ℕ, pos, false, List, IsTrue, Option, Some, None, Result, Ok, Err}
use lib.Chars.{codes}
use Rattle.serde_json.specs.Data.{Data, object, member, no_members, string, number}
use Rattle.serde_json.specs.Find.{of_integer, get}
use Rattle.font_types.specs.{declared.Pad.Pad, declared.Align.TheVariants.Right, Fixed.fixed_bits, Fixed.fixed_text}
use Rattle.font_types.specs.{Fixed.Fixed, declared.NameId.NameId, declared.Tag.Tag, declared.JsonFault.JsonFault}
use Rattle.font_types.specs.{declared.JsonFault.TheVariants.MissingMember, Json.is_unsigned, Wrap.fits_bits}
use Rattle.font_types.specs.{NameId.name_number, Tag.tag_bytes, Bytes.are_bytes}
use Rattle.callers.specs.declared.dumper.Axis.{Axis}

-- a column of that width, aligned to the right with spaces
abbrev pub column : ℕ → Pad
column width = record { width = width; fill = 32; align = Right; plus = false; zeros = false }

-- each field is a value of its type
pub record IsAxis (axis : Axis) : Type 0 where
  pub tag : IsTrue (are_bytes 4 (tag_bytes axis.tag))
  pub default : IsTrue (fits_bits 32 (fixed_bits axis.default))
  pub name : IsTrue (is_unsigned 16 (name_number axis.name))

-- an object with a member for each field: the tag and the default as texts, and the name as a number
abbrev pub axis_form : Axis → Data
axis_form axis =
    object (member (codes "default") (string (fixed_text axis.default))
    (member (codes "name") (number (of_integer (pos (name_number axis.name))))
    (member (codes "tag") (string (tag_bytes axis.tag)) no_members)))

-- the result of converting a member, if there is one
abbrev IsRead : {T : Type 0} → (Data → Result T JsonFault → Type 0) → Option Data → Result T JsonFault → Type 0
IsRead reads None result = result ≡ Err MissingMember
IsRead reads (Some d) result = reads d result

-- the result of converting the member of that name
abbrev pub ConvertsMember : {T : Type 0} → (Data → Result T JsonFault → Type 0) → List ℕ → Data → Result T JsonFault
    → Type 0
ConvertsMember reads name d result = IsRead reads (get name d) result

-- the result of converting an axis, from its members: all three fields, or the first error
abbrev pub ConvertsAxis : (Result Tag JsonFault → Type 0) → (Result Fixed JsonFault → Type 0)
    → (Result NameId JsonFault → Type 0) → Result Axis JsonFault → Type 0
ConvertsAxis tag default name (Ok axis) = tag (Ok axis.tag) × default (Ok axis.default) × name (Ok axis.name)
ConvertsAxis tag default name (Err fault) =
    tag (Err fault)
    ⊎ ((t : Tag) × tag (Ok t) × (default (Err fault)
    ⊎ ((d : Fixed) × default (Ok d) × name (Err fault))))
