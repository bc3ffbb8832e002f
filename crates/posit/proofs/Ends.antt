-- Pattern 1 is one unit and the largest pattern 2^(2m) of them, so minPos is 2^-m and maxPos 2^m; below NaR values are positive, above it negative.
use Rattle.std.proofs.Common.{◌≡◌, ℕ, ◌-◌, ◌*◌, ◌^◌, ◌<◌, ◌≤◌, pos, sym, ap, ◌∙◌, zero-mul, mul-one, two-mul, arith, pow-add}
use lib.Pow.{pow-lt}
use Rattle.exact.specs.Fraction.{◌≈◌, ◌<ᶠ◌, whole, over_power}
use Rattle.exact.proofs.WholeOrder.{pos_<ℤ}
use Rattle.exact.proofs.Sum.{negᶠ_<ᶠ}
use Rattle.posit.specs.Format.{nar, m, Finite, min_pos, max_pos, negated}
use Rattle.posit.specs.Value.{multiple, units, value}
use Rattle.posit.proofs.Order.{multiple_one, multiple_top, multiple_positive}
use Rattle.posit.proofs.Mirror.{nar_is_half, negated_positive, units_zero, units_below, value_above}

-- ---- zero
pub value_zero : (n es : ℕ) → value n es 0 ≈ whole (pos 0)
value_zero n es = record { cross = rw (units_zero n es) (ap pos (sym (zero-mul (2 ^ m n es)))) }

-- ---- the two ends
module _ (n : ℕ) (k : 2 ≤ n) where
  one_below_nar : min_pos < nar n
  one_below_nar = pow-lt {i = 0} {j = n - 1} (omega arith)

  pub min_pos_finite : Finite n min_pos
  min_pos_finite = record { fits = omega (arith, nar_is_half n (omega arith), one_below_nar); not_nar = omega (arith, one_below_nar) }

  pub max_pos_finite : Finite n (max_pos n)
  max_pos_finite = record { fits = omega (arith, nar_is_half n (omega arith), one_below_nar); not_nar = omega (arith, one_below_nar) }

module _ (n es : ℕ) (k : 2 ≤ n) where
  pub units_min_pos : units n es min_pos ≡ pos 1
  units_min_pos = units_below n es (one_below_nar n k) ∙ ap pos (multiple_one (n - 1) es (omega arith))

  pub units_max_pos : units n es (max_pos n) ≡ pos (2 ^ (2 * m n es))
  units_max_pos =
      units_below n es (omega (arith, one_below_nar n k))
      ∙ ap pos (multiple_top (n - 1) es (omega arith) ∙ ap (λ (i : ℕ). 2 ^ (2 * m i es)) (omega arith))

  pub value_min_pos : value n es min_pos ≈ over_power (pos 1) (m n es)
  value_min_pos = record { cross = rw units_min_pos }

  pub value_max_pos : value n es (max_pos n) ≈ whole (pos (2 ^ m n es))
  value_max_pos =
      let s : 2 ^ (2 * m n es) ≡ 2 ^ m n es * 2 ^ m n es = ap (λ (i : ℕ). 2 ^ i) (two-mul (m n es)) ∙ pow-add 2 (m n es) (m n es) in
      record { cross = rw units_max_pos (ap pos (mul-one (2 ^ (2 * m n es)) ∙ s)) }

-- ---- signs
pub value_positive : (n es : ℕ) {p : ℕ} → 0 < p → p < nar n → whole (pos 0) <ᶠ value n es p
value_positive n es {p} z h =
    record { cross = rw (units_below n es h, zero-mul (2 ^ m n es), mul-one (multiple (n - 1) es p)) (pos_<ℤ.1 (multiple_positive (n - 1) es z h)) }

pub value_negative : (n es : ℕ) {p : ℕ} → 1 ≤ n → nar n < p → p < 2 ^ n → value n es p <ᶠ whole (pos 0)
value_negative n es {p} k h u =
    let e : negated n p ≡ 2 ^ n - p = negated_positive n (omega arith) u in
    rw (value_above n es k h u) (negᶠ_<ᶠ (value_positive n es (omega arith) (omega (arith, nar_is_half n k))))
