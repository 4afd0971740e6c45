-- A function that is called on each element of a list, in order, and may change its state.
use Rattle.std.specs.Prelude.{List, [], ◌∷◌, ⊤}

-- in the state f it may be called on each of these, in order: `pre f x` means that it may be called on x, and
-- `step f x y g` that the call may return y and leave the state g
abbrev pub CanCallEach : {F A B : Type 0} → (F → A → Type 0) → (F → A → B → F → Type 0) → F → List A → Type 0
CanCallEach pre step f [] = ⊤
CanCallEach {F} {A} {B} pre step f (x ∷ xs) = pre f x × ((y : B) (g : F) → step f x y g → CanCallEach pre step g xs)

-- calls on each element of the first list, in order, returned the second
abbrev pub CallsEach : {F A B : Type 0} → (F → A → B → F → Type 0) → F → List A → List B → Type 0
CallsEach step f [] [] = ⊤
CallsEach step f [] (y ∷ ys) = ⊥
CallsEach step f (x ∷ xs) [] = ⊥
CallsEach {F} step f (x ∷ xs) (y ∷ ys) = (g : F) × step f x y g × CallsEach step g xs ys
