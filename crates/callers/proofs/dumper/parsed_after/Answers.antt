use Rattle.std.proofs.lemmas.List.{take_rest}
use Rattle.callers.proofs.dumper.parsed_after.Goals as goal

pub returns : goal.returns
returns c = rw take_rest at c.from_decimal_bytes.ensures
