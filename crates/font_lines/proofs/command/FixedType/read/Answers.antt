-- The two types that no field holds are read as their bits.
use Rattle.std.proofs.Common.{rules}
use Rattle.font_lines.proofs.Commands.{given_number}
use Rattle.font_lines.proofs.command.FixedType.read.Goals as goal

pub returns-in-F26Dot6 : goal.returns-in-F26Dot6
returns-in-F26Dot6 g c = given_number _ c.append_read-in-F26Dot6.ensures
    c.from_decimal_bytes-in-F26Dot6.ensures (search rules) (search rules)

pub returns-in-F48Dot16 : goal.returns-in-F48Dot16
returns-in-F48Dot16 g c = given_number _ c.append_read-in-F48Dot16.ensures
    c.from_decimal_bytes-in-F48Dot16.ensures (search rules) (search rules)
