-- Negation of a pattern negates the value and is its own inverse; zero and NaR stay. The laws are those of `Mirror`, named for the reader.
use Rattle.std.proofs.Common.{◌≡◌, ℕ, ◌^◌, ◌<◌, ◌≤◌}
use Rattle.exact.specs.Fraction.{negᶠ}
use Rattle.posit.specs.Format.{Finite, nar, negated}
use Rattle.posit.specs.Value.{value}
use Rattle.posit.proofs.Patterns.{some_bit}
use Rattle.posit.proofs.Mirror.{negated_zero, negated_nar, negated_negated, negated_finite, value_negated}

module _ (n : ℕ) (wide : 3 ≤ n) where
  pub zero_stays : negated n 0 ≡ 0
  zero_stays = negated_zero n

  pub nar_stays : negated n (nar n) ≡ nar n
  nar_stays = negated_nar n (some_bit n wide)

  pub finite_stays_finite : {p : ℕ} → Finite n p → Finite n (negated n p)
  finite_stays_finite finite = negated_finite (some_bit n wide) finite

  pub own_inverse : {p : ℕ} → p < 2 ^ n → negated n (negated n p) ≡ p
  own_inverse fits = negated_negated n fits

  pub negates_the_value : (es : ℕ) {p : ℕ} → Finite n p → value n es (negated n p) ≡ negᶠ (value n es p)
  negates_the_value es finite = value_negated n es (some_bit n wide) finite
