use Rattle.std.proofs.{Common.rules, Common.pos, lemmas.Option.IfSome_then}
use Rattle.font_types.specs.{F48Dot16.f48dot16_bits, FWord.ufword_number}
use Rattle.variations.specs.Advances.{regions_of}
use Rattle.variations.proofs.Stores.{advance_is_near}
use Rattle.variations.proofs.instances.StoreInstance.vary_set.Goals as goal

pub returns-clause-near : goal.returns-clause-near
returns-clause-near c = IfSome_then c.checked_add_delta.result c.checked_add_delta.ensures.value
    (λ word is. advance_is_near (regions_of c.args.self.now.store.bytes.now) c.args.subtable.now
    c.args.self.now.coordinates.now c.args.set
    (ufword_number c.args.advance) (f48dot16_bits c.in_ok-sum.field-0) (pos (ufword_number word))
    (search rules) is)
