-- A zero bit behind a pattern lengthens the tail and pads it by nothing but zeros: the growth doubles, minPos shrinks by 2^(2^es), the value stays.
use Rattle.std.proofs.Common.{◌≡◌, ℕ, zero, suc, ◌+◌, ◌-◌, ◌*◌, ◌^◌, ◌<◌, ◌≤◌, ℤ, pos, ◌*ℤ◌, neg_ℤ, ap, ◌∙◌, mul_assoc, suc-mul, arith, pow_pos, pow-add}
use native.Mathlib.Nat.{eq_of_mul-eq-mul_right, pow-succ'}
use lib.IntN.{*ℤ_comm}
use Rattle.exact.specs.Fraction.{◌≈◌}
use Rattle.exact.proofs.Whole.{*ℤ_assoc, *ℤ_neg_ℤ}
use Rattle.posit.specs.Format.{nar, m, Finite}
use Rattle.posit.specs.Value.{multiple, units, value}
use Rattle.posit.proofs.Growth.{G, g_wider}
use Rattle.posit.proofs.Shapes.{Shape, zeros, ones, all_ones, shape, zeros_value, ones_value}
use Rattle.posit.proofs.Order.{multiple_zero, start_of_ones, some_bits}
use Rattle.posit.proofs.Mirror.{Side, below, above, side, nar_is_half, power_wider, nar_wider, units_below, units_above}

-- ---- the tail and the count of scales both grow by one
longer :
    (es k w t M N : ℕ) → M * 2 ^ w ≡ 2 ^ (k * 2 ^ es) * G w (t * 2 ^ es)
    → N * 2 ^ suc w ≡ 2 ^ (suc k * 2 ^ es) * G (suc w) (2 * t * 2 ^ es) → N ≡ 2 ^ 2 ^ es * M
longer es k w t M N e f =
    eq_of_mul-eq-mul_right (2 ^ suc w) (pow_pos (suc w)) N (2 ^ 2 ^ es * M)
    (f
    ∙ rw (suc-mul k (2 ^ es), pow-add 2 (k * 2 ^ es) (2 ^ es), mul_assoc 2 t (2 ^ es), g_wider w (t * 2 ^ es), pow-succ' 2 w)
    (omega (arith, ap (λ (n : ℕ). 2 ^ 2 ^ es * n) e)))

by_shape : (b es p : ℕ) → 0 < p → Shape b p → multiple (suc b) es (2 * p) ≡ 2 ^ 2 ^ es * multiple b es p
by_shape b es p z (zeros w t h l e) =
    longer es w w t (multiple b es p) (multiple (suc b) es (2 * p)) (zeros_value b p w t h l e es)
    (zeros_value (suc b) (2 * p) (suc w) (2 * t) (omega arith) (omega arith) (omega arith) es)
by_shape b es p z (ones r w t h l e) =
    longer es (2 * r + w + 1) w t (multiple b es p) (multiple (suc b) es (2 * p)) (ones_value b p r w t h l e es)
    (ones_value (suc b) (2 * p) r (suc w) (2 * t) (omega arith) (omega arith) (omega arith) es
    ∙ ap (λ (k : ℕ). 2 ^ (k * 2 ^ es) * G (suc w) (2 * t * 2 ^ es)) (omega arith))
by_shape b es p z (all_ones e) =
    let k : 0 < b = some_bits b (omega arith) in
    start_of_ones (suc b) es (2 * p) (b - 1) 1 (omega arith) (omega arith)
    ∙ rw (start_of_ones b es p (b - 1) 0 (omega arith) (omega arith), ← pow-add 2 (2 ^ es) ((2 * (b - 1) + 0) * 2 ^ es))
    (ap (λ (n : ℕ). 2 ^ n) (omega arith))

pub multiple_wider : (b es p : ℕ) → p < 2 ^ b → multiple (suc b) es (2 * p) ≡ 2 ^ 2 ^ es * multiple b es p
multiple_wider b es zero u = rw (multiple_zero (suc b) es, multiple_zero b es) (omega arith)
multiple_wider b es (suc p) u = by_shape b es (suc p) (omega arith) (shape b (suc p) (omega arith) u)

-- ---- as units and as values
pub finite_wider : (n p : ℕ) → 1 ≤ n → Finite n p → Finite (n + 1) (2 * p)
finite_wider n p k f =
    record { fits = omega (arith, power_wider n, f.fits); not_nar = let d = f.not_nar in omega (arith, nar_wider n, nar_is_half n k) }

pub finite_between : (n p : ℕ) → 1 ≤ n → p < 2 ^ n → Finite (n + 1) (2 * p + 1)
finite_between n p k u = record { fits = omega (arith, power_wider n); not_nar = omega (arith, nar_wider n, nar_is_half n k) }

module _ (n es : ℕ) (k : 1 ≤ n) where
  grown : (q : ℕ) → q < nar n → multiple (n + 1 - 1) es (2 * q) ≡ 2 ^ 2 ^ es * multiple (n - 1) es q
  grown q h = let s : n + 1 - 1 ≡ suc (n - 1) = omega arith in rw s (multiple_wider (n - 1) es q h)

  by_side : (p : ℕ) → Side n p → units (n + 1) es (2 * p) ≡ pos (2 ^ 2 ^ es) *ℤ units n es p
  by_side p (below h) =
      units_below (n + 1) es (omega (arith, nar_wider n, nar_is_half n k)) ∙ rw (units_below n es h) (ap pos (grown p h))
  by_side p (above h u) =
      units_above (n + 1) es (omega (arith, nar_wider n, nar_is_half n k)) (omega (arith, power_wider n))
      ∙ rw (units_above n es h u, *ℤ_neg_ℤ)
      (ap (λ (q : ℕ). neg_ℤ (pos q))
      (ap (multiple (n + 1 - 1) es) {y = 2 * (2 ^ n - p)} (omega (arith, power_wider n)) ∙ grown (2 ^ n - p) (omega (arith, nar_is_half n k))))

  pub units_wider : (p : ℕ) → Finite n p → units (n + 1) es (2 * p) ≡ pos (2 ^ 2 ^ es) *ℤ units n es p
  units_wider p f = by_side p (side f)

pub value_wider : (n es p : ℕ) → 2 ≤ n → Finite n p → value (n + 1) es (2 * p) ≈ value n es p
value_wider n es p k f =
    let s : 2 ^ m (n + 1) es ≡ 2 ^ 2 ^ es * 2 ^ m n es =
    ap (λ (i : ℕ). 2 ^ i) (ap (λ (i : ℕ). i * 2 ^ es) {y = 1 + (n - 2)} (omega arith) ∙ omega arith) ∙ pow-add 2 (2 ^ es) (m n es)
    in
    record {
      cross =
          rw (units_wider n es (omega arith) p f, s)
          (ap (λ (z : ℤ). z *ℤ pos (2 ^ m n es)) (*ℤ_comm (pos (2 ^ 2 ^ es)) (units n es p))
          ∙ *ℤ_assoc (units n es p) (pos (2 ^ 2 ^ es)) (pos (2 ^ m n es)));
    }
