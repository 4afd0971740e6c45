use Rattle.std.proofs.Common.{refl, lit≤, rules, w64}
use Rattle.font_fixed.proofs.Texts.{reads_by}
use Rattle.font_fixed.proofs.reading.read_bits_64.Goals as goal

pub returns : goal.returns
returns c = reads_by w64 c.args.f (λ b. b) (λ b. b) c.args.text.now _ (λ _. refl) (lit≤ tt) (search rules)
