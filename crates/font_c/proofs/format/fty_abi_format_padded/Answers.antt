use Rattle.std.proofs.Common.{rules, ◌<◌, length}
use Rattle.font_types.specs.{Padding.unsigned_body, Shortest.shortest_text}
use Rattle.font_c.proofs.Texts.{printed_is_short}
use Rattle.font_c.proofs.format.fty_abi_format_padded.Goals as goal

pub returns-in-Ok : goal.returns-in-Ok
returns-in-Ok c =
    let short : length (unsigned_body (shortest_text c.args.bits c.args.fraction.bits)) < 22 =
    printed_is_short c.args.bits c.args.fraction.bits (search rules) (search rules) in
    search (rules, short)
