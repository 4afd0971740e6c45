use Rattle.std.proofs.Common.{rules, ◌∙◌}
use Rattle.font_base.specs.Bytes.Laws.{bytes_of_gives, bytes_of-same}
use Rattle.font_base.proofs.ThreeBytes.{from_three, upper_bits_read, int24_numeral}
use Rattle.font_base.proofs.int24.Int24.from_be_bytes.Goals as goal

pub returns-clause-bytes : goal.returns-clause-bytes
returns-clause-bytes c =
    let are = from_three c.args.bytes (search rules) (search rules) (search rules) (search rules) in
    let read = c.from_be_bytes-value.ensures in
    let wrapped = upper_bits_read _ _ _ _ (search rules) (search rules) (search rules) read in
    bytes_of_gives 3 _ c.args.bytes are ∙ bytes_of-same 3 _ _ wrapped.turns wrapped.differs

pub returns-clause-number : goal.returns-clause-number
returns-clause-number c =
    let read = c.from_be_bytes-value.ensures in
    let wrapped = upper_bits_read _ _ _ _ (search rules) (search rules) (search rules) read in
    int24_numeral _ c.args.bytes wrapped.fits (returns-clause-bytes c)
