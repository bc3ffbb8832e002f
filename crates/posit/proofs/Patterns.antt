-- The patterns up to maxPos, in one format: they are finite because NaR stands right behind them, and their values increase because there
-- a pattern is its own signed integer.
use Rattle.std.proofs.Common.{◌≡◌, ℕ, ◌+◌, ◌-◌, ◌^◌, ◌<◌, ◌≤◌, refl, arith, pow_mono}
use native.Mathlib.Decide.{ℕ_discrete}
use Rattle.exact.specs.Fraction.{◌<ᶠ◌, ◌≤ᶠ◌}
use Rattle.exact.proofs.WholeOrder.{pos_<ℤ}
use Rattle.exact.proofs.Order.{≤ᶠ_refl, ≤ᶠ_of_<ᶠ}
use Rattle.posit.specs.Format.{Finite, nar, max_pos, negated}
use Rattle.posit.specs.Value.{value}
use Rattle.posit.specs.Rounding.{middle}
use Rattle.posit.proofs.Mirror.{nar_is_half, negated_positive, signed_below}
use Rattle.posit.proofs.Increasing.{value_lt}
use Rattle.posit.proofs.Neighbours.{middle_above_lower}

module _ (n : ℕ) (wide : 3 ≤ n) where
  pub some_bit : 1 ≤ n
  some_bit = omega arith

  pub two_bits : 2 ≤ n
  two_bits = omega arith

  pub nar_large : 4 ≤ nar n
  nar_large = omega (arith, pow_mono {i = 2} {j = n - 1} (omega arith))

  pub below_nar : {p : ℕ} → p ≤ max_pos n → p < nar n
  below_nar h = omega (arith, nar_large)

  pub small_finite : {p : ℕ} → p ≤ max_pos n → Finite n p
  small_finite {p} h = record { fits = omega (arith, nar_is_half n some_bit, below_nar h); not_nar = omega (arith, below_nar h) }

  -- negated neighbours are neighbours, the upper one now the lower
  pub negated_neighbours : {u w : ℕ} → 0 < u → w ≡ u + 1 → w < 2 ^ n → negated n u ≡ negated n w + 1
  negated_neighbours {u} {w} h e k = rw (negated_positive n {p = u} h (omega arith), negated_positive n {p = w} (omega arith) k) (omega arith)

module _ (n es : ℕ) (wide : 3 ≤ n) where
  pub increasing : {p q : ℕ} → p < q → q ≤ max_pos n → value n es p <ᶠ value n es q
  increasing {p} {q} h k =
      (value_lt n es (some_bit n wide) (small_finite n wide {p = p} (omega arith)) (small_finite n wide k)).1
      (rw (signed_below n {p = p} (below_nar n wide (omega arith)), signed_below n (below_nar n wide k)) (pos_<ℤ.1 h))

  pub ordered : {p q : ℕ} → p ≤ q → q ≤ max_pos n → value n es p ≤ᶠ value n es q
  ordered {p} {q} h k = by (ℕ_discrete p q)
    where
      by : Dec (p ≡ q) → value n es p ≤ᶠ value n es q
      by (yes e) = rw e (≤ᶠ_refl (value n es q))
      by (no e) = ≤ᶠ_of_<ᶠ (increasing (omega arith) k)

  pub below_middle : {u : ℕ} → u < max_pos n → value n es u <ᶠ middle n es u
  below_middle {u} h = middle_above_lower n es (two_bits n wide) {W = u + 1} (small_finite n wide (omega arith)) (small_finite n wide (omega arith)) refl
