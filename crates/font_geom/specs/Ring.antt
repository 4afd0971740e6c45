-- Elements that form a ring (without negation), so that products of their matrices are associative.
pub mod Laws
use Rattle.std.specs.Prelude.{◌≡◌}

-- Addition is associative and commutative, with `zero` neutral. Multiplication is associative, with `one` neutral and
-- `zero` absorbing on both sides, and distributes over addition on both sides.
pub record RingLaws {T : Type 0} (zero one : T) (plus times : T → T → T) : Type 0 where
  pub sums_associate : (x y z : T) → plus (plus x y) z ≡ plus x (plus y z)
  pub sums_commute : (x y : T) → plus x y ≡ plus y x
  pub plus_zero : (x : T) → plus x zero ≡ x
  pub products_associate : (x y z : T) → times (times x y) z ≡ times x (times y z)
  pub one_times : (x : T) → times one x ≡ x
  pub times_one : (x : T) → times x one ≡ x
  pub times_sum : (x y z : T) → times x (plus y z) ≡ plus (times x y) (times x z)
  pub sum_times : (x y z : T) → times (plus x y) z ≡ plus (times x z) (times y z)
  pub zero_times : (x : T) → times zero x ≡ zero
  pub times_zero : (x : T) → times x zero ≡ zero
