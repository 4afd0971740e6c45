-- Compatibility of versions is reflexive and transitive, over the two numbers of each `impl` of `Compatible`.
use Rattle.std.proofs.Common.{refl, ℕ, arith}
use Rattle.font_tags.specs.Version.{IsCompatible}

pub compatible_with_itself : (major minor : ℕ) → IsCompatible major minor major minor
compatible_with_itself major minor = record { same_major = refl; minor_at_least = omega arith }

pub compatible_in_turn : (major minor middle_major middle_minor last_major last_minor : ℕ)
    → IsCompatible major minor middle_major middle_minor
    → IsCompatible middle_major middle_minor last_major last_minor → IsCompatible major minor last_major last_minor
compatible_in_turn major minor middle_major middle_minor last_major last_minor first second = grind arith

pub ruleset compatible_calls = (compatible_with_itself, compatible_in_turn)
