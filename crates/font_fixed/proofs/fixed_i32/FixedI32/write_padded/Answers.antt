use Rattle.std.proofs.Common.{arith, rules}
use Rattle.font_fixed.proofs.{Rules.cell_32, Texts.has_room}
use Rattle.font_fixed.proofs.fixed_i32.FixedI32.write_padded.Goals as goal

pub returns-clause-cell : goal.returns-clause-cell
returns-clause-cell g c = search (rules, cell_32, has_room 32 g.row.F (search rules) (omega arith))
