use Rattle.std.proofs.Common.{rules, Ok, ◌++◌, ◌≡◌, ap, append_assoc, ◌∙◌, slice_index}
use Rattle.font_types.specs.Tag.{byte_text, tag_bytes, tag_text}
use Rattle.font_lines.proofs.Commands.{given_after, four_texts}
use Rattle.font_lines.proofs.report.append_tag.Goals as goal

pub returns : goal.returns
returns g c =
    let bytes = c.to_be_bytes.result in
    let three = byte_text (slice_index bytes 0)
    ++ (byte_text (slice_index bytes 1) ++ byte_text (slice_index bytes 2)) in
    let same : bytes ≡ tag_bytes c.args.tag = search rules in
    let four : three ++ byte_text (slice_index bytes 3) ≡ tag_text (tag_bytes c.args.tag) =
    rw (append_assoc, append_assoc) (four_texts bytes (search rules)) ∙ ap tag_text same in
    given_after three _ _ _ (search (rules, append_assoc)) (ap Ok four) c.append_byte-4.ensures
