use Rattle.std.proofs.Common.{arith, to_z-of_z}
use Rattle.font_decimal.proofs.Order.{order_of_readings}
use Rattle.font_decimal.proofs.laws.reads_in_order.Goals as goal

pub returns-clause-in_order : goal.returns-clause-in_order
returns-clause-in_order c = grind (arith, order_of_readings, to_z-of_z)
