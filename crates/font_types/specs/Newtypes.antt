-- The laws of newtypes of a `Uint24`, for records that have such a field.
use Rattle.std.proofs.Common.{refl, true}
use Rattle.font_base.specs.{Bytes.are_bytes, Scalar.ScalarLaws, Uint24.uint24_of_bytes, Uint24.bytes_of_uint24}
use Rattle.font_base.specs.Uint24.Laws.{uint24_laws}
use Rattle.font_ids.specs.{Newtype.newtype_laws, Offset.offset24_of, declared.offset.Offset24.Offset24}
use Rattle.font_ids.specs.{GlyphId.glyph24_of, declared.glyph_id.GlyphId24.GlyphId24}

-- an `Offset24` is a scalar
pub offset24_laws : ScalarLaws (λ (offset : Offset24). true) (are_bytes 3)
    (λ raw. offset24_of (uint24_of_bytes raw)) (λ offset. bytes_of_uint24 offset.0) 3 3
offset24_laws = newtype_laws (λ offset. offset.0) offset24_of (λ _. refl) (λ _. refl) uint24_laws

-- a `GlyphId24` is a scalar
pub glyph24_laws : ScalarLaws (λ (id : GlyphId24). true) (are_bytes 3)
    (λ raw. glyph24_of (uint24_of_bytes raw)) (λ id. bytes_of_uint24 id.0) 3 3
glyph24_laws = newtype_laws (λ id. id.0) glyph24_of (λ _. refl) (λ _. refl) uint24_laws
