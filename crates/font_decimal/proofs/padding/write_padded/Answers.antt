use Rattle.std.proofs.Common.{◌≡◌, ◌+◌, ◌-◌, length, arith, refl, append_assoc}
use Rattle.std.proofs.lemmas.List.{length-replicate}
use Rattle.font_decimal.specs.Padding.{padded_text}
use Rattle.font_decimal.proofs.Padded.{padded_length, put_after, nothing_yet, fills_all}
use Rattle.font_decimal.proofs.padding.write_padded.Goals as goal

pub returns-then-out-shown_len-clause-variant : goal.returns-then-out-shown_len-clause-variant
returns-then-out-shown_len-clause-variant c = grind (arith, padded_length)

pub returns-clause-written : goal.returns-clause-written
unfolding padded_text
returns-clause-written c =
    let first = put_after _ (nothing_yet c.args.out.now) (length-replicate _ _) c.put_fill-at.ensures.end
    c.put_fill-at.ensures.written in
    let second = put_after _ first refl c.put-at.ensures.end c.put-at.ensures.written in
    let third = put_after _ second (length-replicate _ _) c.put_fill-at-2.ensures.end
    c.put_fill-at-2.ensures.written in
    let fourth = put_after _ third refl c.put-at-2.ensures.end c.put-at-2.ensures.written in
    let fifth = put_after _ fourth (length-replicate _ _) c.put_fill.ensures.end c.put_fill.ensures.written in
    let len = length c.shown_parts.result.0.now + length c.shown_parts.result.1.now in
    let spare : c.args.pad.now.width - len ≡ c.max-shown_len.result - len = omega (arith, c.max-shown_len.ensures) in
    rw (
      ← c.shown_parts.ensures.sign,
      ← c.shown_parts.ensures.body,
      spare,
      c.spread-front.ensures.places,
      ← c.as_bytes.ensures.value,
      ← c.as_bytes-2.ensures.value,
    ) (simp append_assoc at fifth)

pub returns-clause-fills : goal.returns-clause-fills
returns-clause-fills c narrow = fills_all _ _ (returns-clause-written c) narrow

pub returns-clause-variant : goal.returns-clause-variant
returns-clause-variant c = grind (arith, padded_length)
