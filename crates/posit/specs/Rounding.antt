-- The rounding of an exact value x to a posit, a constructor for each sentence of the rule.
use Rattle.std.specs.Prelude.{◌≡◌, ℕ, ◌+◌, ◌*◌, ◌%◌, ◌⊎◌, ℤ, pos, negsuc, unsigned_abs}
use Rattle.exact.specs.Fraction.{Fraction, ◌<ᶠ◌, ◌≤ᶠ◌, ◌≈◌, whole}
use Rattle.posit.specs.Format.{Finite, max_pos, min_pos, negated}
use Rattle.posit.specs.Value.{value}

-- |x|
abbrev pub size : Fraction → Fraction
size x = record { num = pos (unsigned_abs x.num); den = x.den; above = x.above }

-- the posit with pattern p, or its negative where x is below 0
abbrev by_sign : ℕ → ℤ → ℕ → ℕ
by_sign n (pos a) p = p
by_sign n (negsuc a) p = negated n p

abbrev pub with_sign_of : ℕ → Fraction → ℕ → ℕ
with_sign_of n x p = by_sign n x.num p

-- x lies between the neighbours U and W, U the lower, and is not as small as to be rounded to minPos
pub record Between (n es : ℕ) (x : Fraction) (U W : ℕ) : Type 0 where
  pub lower_finite : Finite n U
  pub upper_finite : Finite n W
  pub neighbours : W ≡ U + 1
  pub above_lower : value n es U <ᶠ x
  pub below_upper : x <ᶠ value n es W
  pub not_tiny : value n es min_pos ≤ᶠ size x

-- the value of the pattern 2U + 1, read as a posit one bit wider
abbrev pub middle : ℕ → ℕ → ℕ → Fraction
middle n es U = value (n + 1) es (2 * U + 1)

-- the exact value x is rounded to the posit p
pub data Rounds (n es : ℕ) (x : Fraction) (p : ℕ) : Type 0 where
  zero_gives_zero : x ≈ whole (pos 0) → p ≡ 0 → Rounds n es x p
  posit_gives_itself : Finite n p → x ≈ value n es p → Rounds n es x p
  beyond_max_pos : value n es (max_pos n) <ᶠ size x → p ≡ with_sign_of n x (max_pos n) → Rounds n es x p
  within_min_pos : whole (pos 0) <ᶠ size x → size x <ᶠ value n es min_pos → p ≡ with_sign_of n x min_pos → Rounds n es x p
  below_the_middle : {U W : ℕ} → Between n es x U W → x <ᶠ middle n es U → p ≡ U → Rounds n es x p
  above_the_middle : {U W : ℕ} → Between n es x U W → middle n es U <ᶠ x → p ≡ W → Rounds n es x p
  on_the_middle : {U W : ℕ} → Between n es x U W → x ≈ middle n es U → (p ≡ U) ⊎ (p ≡ W) → p % 2 ≡ 0 → Rounds n es x p
