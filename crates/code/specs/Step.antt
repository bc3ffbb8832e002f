-- The step of a number above 0 among the posits: 2p where it is the posit p, and 2p + 1 where it lies above p and below the next one.
use Rattle.std.specs.Prelude.{◌≡◌, ℕ, ◌/◌, ◌%◌}
use Rattle.exact.specs.Fraction.{Fraction, ◌≈◌, ◌<ᶠ◌}
use Rattle.posit.specs.Value.{value}
use Rattle.posit.specs.Locating.{IsFloor}
use Rattle.code.specs.Coded.{Codes}

pub record IsStep (n es : ℕ) (z : Fraction) (r : ℕ) : Type 0 where
  pub floor : IsFloor n es z (r / 2)
  pub on_it : r % 2 ≡ 0 → z ≈ value n es (r / 2)
  pub beyond : r % 2 ≡ 1 → value n es (r / 2) <ᶠ z

-- whatever c tells, r is its step
abbrev pub StepOf : ℕ → ℕ → ℕ → ℕ → Type 0
StepOf n es c r = (z : Fraction) → Codes es z c → IsStep n es z r
