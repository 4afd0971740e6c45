use Rattle.std.proofs.{Common.arith, Common.Ok, lemmas.Grind.common_steps}
use Rattle.serde_json.specs.View.{view}
use Rattle.font_base.specs.{Uint24.uint24_number, Uint24.Laws.same_uint24}
use Rattle.font_types.specs.Json.Laws.{unsigned_form}
use Rattle.font_types.proofs.json.number.Uint24JsonScalar.from_json.Goals as goal

pub returns-clause-back : goal.returns-clause-back
returns-clause-back c = λ v value shown.
    let form = unsigned_form 24 uint24_number same_uint24 in
    form.round_trip v (view c.args.value.now) (Ok c.new.result) value shown (grind (arith, common_steps))
