-- Writing in parts.
use Rattle.std.proofs.Common.{◌≡◌, ℕ, List, ◌++◌, sym, ap, ◌∙◌, append_assoc, Option, take, drop, length, arith, ◌-◌}
use Rattle.std.proofs.{lemmas.List.take-append-drop, lemmas.Slice.between_to_end, KnownBytes.Appends-trans}
use Rattle.std.specs.Io.KnownBytes.{Appends}

-- the bytes before `rest` were written
pub record IsWrittenUpTo (taken taken' : Option (List ℕ)) (bytes rest : List ℕ) : Type 0 where
  pub output : List ℕ
  pub parts : bytes ≡ output ++ rest
  pub written : Appends taken taken' output

-- one more write, of the first n bytes
pub written_more : (taken taken' taken'' : Option (List ℕ)) (bytes rest : List ℕ) (n : ℕ)
    → IsWrittenUpTo taken taken' bytes rest → Appends taken' taken'' (take n rest)
    → IsWrittenUpTo taken taken'' bytes (take (length rest - n) (drop n rest))
written_more taken taken' taken'' bytes rest n so_far one = rw (between_to_end rest n (length rest) (omega arith))
    (record {
      output = so_far.output ++ take n rest;
      parts = so_far.parts ∙ ap (λ z. so_far.output ++ z) (sym (take-append-drop n rest)) ∙ sym
          (append_assoc so_far.output (take n rest) (drop n rest));
      written = Appends-trans taken taken' taken'' so_far.output (take n rest) so_far.written one;
    })
