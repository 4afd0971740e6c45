-- @generated from crates/font_fixed/proofs/fixed_i32/FixedI32/write_padded/Answers.antt by tools/erase
use Rattle.std.proofs.Common.{arith, rules}
use Rattle.font_fixed.proofs.{Rules.cell_64, Texts.has_room}
use Rattle.font_fixed.proofs.fixed_i64.FixedI64.write_padded.Goals as goal

pub returns-clause-cell : goal.returns-clause-cell
returns-clause-cell g c = search (rules, cell_64, has_room 64 g.row.F (search rules) (omega arith))
