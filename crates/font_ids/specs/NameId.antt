-- Name ids (OpenType, name IDs: 0 to 25 except 15 are predefined, those up to 255 are reserved, and 256 to 32767 are
-- font-specific).
use Rattle.std.specs.Prelude.{ℕ, List, [], ◌∷◌, ◌++◌, ◌==◌, if◌then◌else◌, nat_le, map, filter, codes}
use Rattle.std.specs.Fmt.{decimal}
use Rattle.font_ids.specs.{declared.name_id.NameId.NameId, declared.name_id.Predefined.Predefined}

-- the number of a name id, and the name id with this number
abbrev pub name_number : NameId → ℕ
name_number id = id.0

abbrev pub name_id_of : ℕ → NameId
name_id_of number = record { 0 = number }

-- the predefined numbers, each with the name of its constant
abbrev pub names : List (ℕ × List ℕ)
names =
    (0, codes "COPYRIGHT_NOTICE") ∷ (1, codes "FAMILY_NAME") ∷ (2, codes "SUBFAMILY_NAME") ∷ (3, codes "UNIQUE_ID")
    ∷ (4, codes "FULL_NAME")
    ∷ (5, codes "VERSION_STRING") ∷ (6, codes "POSTSCRIPT_NAME") ∷ (7, codes "TRADEMARK") ∷ (8, codes "MANUFACTURER")
    ∷ (9, codes "DESIGNER")
    ∷ (10, codes "DESCRIPTION") ∷ (11, codes "VENDOR_URL") ∷ (12, codes "DESIGNER_URL")
    ∷ (13, codes "LICENSE_DESCRIPTION") ∷ (14, codes "LICENSE_URL")
    ∷ (16, codes "TYPOGRAPHIC_FAMILY_NAME") ∷ (17, codes "TYPOGRAPHIC_SUBFAMILY_NAME")
    ∷ (18, codes "COMPATIBLE_FULL_NAME") ∷ (19, codes "SAMPLE_TEXT")
    ∷ (20, codes "POSTSCRIPT_CID_NAME") ∷ (21, codes "WWS_FAMILY_NAME") ∷ (22, codes "WWS_SUBFAMILY_NAME")
    ∷ (23, codes "LIGHT_BACKGROUND_PALETTE")
    ∷ (24, codes "DARK_BACKGROUND_PALETTE") ∷ (25, codes "VARIATIONS_POSTSCRIPT_NAME_PREFIX") ∷ []

-- the name of a number in such a table, or `NameId` and the number if it is not in it
abbrev pub text_in : List (ℕ × List ℕ) → ℕ → List ℕ
text_in [] number = codes "NameId " ++ decimal number
text_in (row ∷ rows) number = if number == row.0 then row.1 else text_in rows number

-- the text of a name id
abbrev pub name_text : ℕ → List ℕ
name_text number = text_in names number

-- the predefined numbers, in order
abbrev pub predefined_numbers : List ℕ
predefined_numbers = map (λ row. row.0) names

-- the ids that are left: those whose number is at least the next one
unfoldable pub predefined_left : Predefined → List NameId
predefined_left ids = map name_id_of (filter (λ number. nat_le ids.next number) predefined_numbers)

-- the largest reserved number, and the largest that is allowed
abbrev pub last_reserved : ℕ
last_reserved = 255

abbrev pub last_allowed : ℕ
last_allowed = 32767
