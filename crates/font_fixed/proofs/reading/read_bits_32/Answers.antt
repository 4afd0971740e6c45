use Rattle.std.proofs.Common.{refl, lit≤, rules, w32}
use Rattle.font_fixed.proofs.Texts.{reads_by, cast_reads}
use Rattle.font_fixed.proofs.reading.read_bits_32.Goals as goal

pub returns-in-Ok : goal.returns-in-Ok
returns-in-Ok c =
    reads_by w32 c.args.f (λ b. b) (λ b. b) c.args.text.now _ (λ _. refl) (lit≤ tt)
    (cast_reads w32 _ _ c.in-Ok.bits _ _ (lit≤ tt) refl refl c.in-Ok.ensures)

pub returns-in-Err : goal.returns-in-Err
returns-in-Err c = reads_by w32 c.args.f (λ b. b) (λ b. b) c.args.text.now _ (λ _. refl) (lit≤ tt) (search rules)
