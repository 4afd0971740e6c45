use Rattle.std.proofs.Common.{rules, arith, refl, lit<, take}
use Rattle.std.specs.Ordering.{nat_cmp}
use Rattle.font_types.specs.{Bytes.numeral, GlyphId.glyph16_number, GlyphId.glyph16_of, FWord.fword_number}
use Rattle.font_types.specs.{FWord.fword_of, Records.record_laws, Scalar.Laws.unsigned_newtype}
use Rattle.font_types.specs.{Scalar.Laws.signed_newtype}
use Rattle.font_types.proofs.Callers.{calls, no_record_has}
use Rattle.callers.specs.declared.reader.GlyphOrigin.{GlyphOrigin}
use Rattle.callers.proofs.reader.origin_or_none.Goals as goal

-- `searched` names the comparison of the search
pub returns-in_ok-get-in-Ok-clause-found : goal.returns-in_ok-get-in-Ok-clause-found
returns-in_ok-get-in-Ok-clause-found c =
    let searched = c.binary_search_by.ensures.place
    (λ pair. nat_cmp (glyph16_number pair.glyph) (glyph16_number c.args.glyph)) (λ v o called. search rules) in
    grind (arith, calls)

-- `laws` are those of the record, as its `impl Scalar` states them
pub returns-in-Err-clause-absent : goal.returns-in-Err-clause-absent
returns-in-Err-clause-absent c =
    let searched = c.binary_search_by.ensures.place
    (λ pair. nat_cmp (glyph16_number pair.glyph) (glyph16_number c.args.glyph)) (λ v o called. search rules) in
    let laws = record_laws 2 2 (λ (pair : GlyphOrigin). pair.glyph) (λ (pair : GlyphOrigin). pair.origin)
    (λ glyph origin. record { glyph = glyph; origin = origin }) (λ _ _. refl) (λ _ _. refl) (λ _. refl)
    (unsigned_newtype 2 glyph16_number glyph16_of (λ _. refl) (λ _. refl))
    (signed_newtype 2 (lit< tt) fword_number fword_of (λ _. refl) (λ _. refl)) in
    λ sorted. rw c.in-Err.is at (no_record_has laws c.args.origins.raw.now c.args.origins.are_raw
    (λ pair. glyph16_number pair.glyph) (λ bytes. numeral (take 2 bytes)) (glyph16_number c.args.glyph)
    c.binary_search_by.result (λ v is. grind (arith, calls)) sorted searched)
