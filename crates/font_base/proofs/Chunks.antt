-- std's chunks of bytes.
use Rattle.std.proofs.Common.{◌≡◌, refl, ℕ, zero, suc, ◌+◌, ◌*◌, ◌/◌, ◌<◌, ◌≤◌, IsTrue, List, [], ◌∷◌, ◌++◌, length}
use Rattle.std.proofs.Common.{take, drop, get_or, flat_map, arith, ◌&&◌, ◌==◌, length-drop, length-take-le, suc-mul}
use Rattle.std.proofs.Common.{zero-mul, take-add, get_or-drop}
use Rattle.std.proofs.{lemmas.Bool.Decides.nat_tests, lemmas.List.take-append-drop}
use Rattle.std.specs.{List.list_all, Simd.first_chunks}
use Rattle.font_base.specs.{Bytes.are_bytes, Bytes.Laws.are_bytes_in, Elements.AreRaw}

abbrev pub ByteAt : List ℕ → Type 0
ByteAt bytes = (i : ℕ) → get_or bytes i 0 < 256

byte_drop : (n : ℕ) (bytes : List ℕ) → ByteAt bytes → ByteAt (drop n bytes)
byte_drop n bytes each i = grind (arith, get_or-drop, each (n + i))

byte_take : (n : ℕ) (bytes : List ℕ) → ByteAt bytes → ByteAt (take n bytes)
byte_take zero bytes each i = omega arith
byte_take (suc n) [] each i = omega arith
byte_take (suc n) (b ∷ bytes) each zero = each 0
byte_take (suc n) (b ∷ bytes) each (suc i) = byte_take n bytes (λ j. each (suc j)) i

-- the first n bytes are an array
pub front_is_bytes : (n : ℕ) (bytes front : List ℕ) → n ≤ length bytes → front ≡ take n bytes → ByteAt bytes
    → IsTrue (are_bytes n front)
front_is_bytes n bytes front fits is each = grind (arith, are_bytes_in, length-take-le, byte_take)

next_fits : (n k : ℕ) (bytes : List ℕ) → suc k * n ≤ length bytes → k * n ≤ length (drop n bytes)
next_fits n k bytes fits = omega (arith, fits, length-drop n bytes, suc-mul k n)

chunk_each : (n k : ℕ) (bytes : List ℕ) → ByteAt bytes → k * n ≤ length bytes
    → IsTrue (list_all (λ a. are_bytes n a && (length a == n)) (first_chunks n k bytes))
chunk_each n zero bytes each fits = refl
chunk_each n (suc k) bytes each fits =
    let many : length (take n bytes) ≡ n = length-take-le n bytes (omega (arith, suc-mul k n)) in
    let one = are_bytes_in n (take n bytes) many (byte_take n bytes each) in
    let others = chunk_each n k (drop n bytes) (byte_drop n bytes each) (next_fits n k bytes fits) in
    grind (arith, nat_tests)

chunk_flat : (n k : ℕ) (bytes : List ℕ) → flat_map (λ a. a) (first_chunks n k bytes) ≡ take (k * n) bytes
chunk_flat n zero bytes = rw (zero-mul n)
chunk_flat n (suc k) bytes = grind (arith, chunk_flat n k (drop n bytes), take-add)

whole_chunks_fit : (len n : ℕ) → 0 < n → len / n * n ≤ len
whole_chunks_fit len n some = omega arith

pub chunks_are : (n : ℕ) (bytes : List ℕ) (chunks : List (List ℕ)) → 0 < n → ByteAt bytes
    → chunks ≡ first_chunks n (length bytes / n) bytes → AreRaw (are_bytes n) (λ a. a) n chunks
chunks_are n bytes chunks some each is =
    grind (arith, chunk_each n (length bytes / n) bytes each (whole_chunks_fit (length bytes) n some))

pub chunks_flat : (n : ℕ) (bytes left : List ℕ) (chunks : List (List ℕ))
    → chunks ≡ first_chunks n (length bytes / n) bytes → left ≡ drop (length bytes / n * n) bytes
    → flat_map (λ a. a) chunks ++ left ≡ bytes
chunks_flat n bytes left chunks is rest = grind (arith, chunk_flat, take-append-drop)
