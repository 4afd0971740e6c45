use Rattle.std.proofs.{Common.arith, Common.Ok, lemmas.Grind.common_steps}
use Rattle.serde_json.specs.View.{view}
use Rattle.font_base.specs.{Int24.int24_number, Int24.Laws.same_int24}
use Rattle.font_types.specs.Json.Laws.{signed_form}
use Rattle.font_types.proofs.json.number.Int24JsonScalar.from_json.Goals as goal

pub returns-clause-back : goal.returns-clause-back
returns-clause-back c = λ v value shown.
    let form = signed_form 24 int24_number same_int24 in
    form.round_trip v (view c.args.value.now) (Ok c.new.result) value shown (grind (arith, common_steps))
