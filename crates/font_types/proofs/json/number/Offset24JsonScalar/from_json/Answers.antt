use Rattle.std.proofs.{Common.ap, Common.arith, Common.Ok, lemmas.Grind.common_steps}
use Rattle.serde_json.specs.View.{view}
use Rattle.font_base.specs.Uint24.Laws.{same_uint24}
use Rattle.font_ids.specs.Offset.{offset24_number, offset24_of}
use Rattle.font_types.specs.Json.Laws.{unsigned_form}
use Rattle.font_types.proofs.json.number.Offset24JsonScalar.from_json.Goals as goal

pub returns-clause-back : goal.returns-clause-back
returns-clause-back c = λ v value shown.
    let form = unsigned_form 24 offset24_number (λ x y same. ap offset24_of (same_uint24 x.0 y.0 same)) in
    form.round_trip v (view c.args.value.now) (Ok c.new-2.result) value shown (grind (arith, common_steps))
