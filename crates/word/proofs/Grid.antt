-- The finite posits of a format, numbered from the most negative up, are a grid of fractions: the patterns above NaR come first and those
-- below it after them, and on either side the values increase with the patterns.
use mathlib.Core.Path.{◌≡◌, sym, ap, ◌∙◌}
use mathlib.Core.Logic.{◌⊎◌, inl, inr}
use Prim.Native.Nat.{ℕ, zero, suc, ◌+◌, ◌-◌, ◌*◌, ◌%◌, ◌^◌, ◌≤◌, ◌<◌}
use native.Mathlib.Nat.{mod-eq_of_lt, mod-eq-sub-mod, eq-zero-or-pos}
use native.Mathlib.Omega.{arith}
use native.Mathlib.Decide.{dec_lt}
use lib.IntN.{pos, neg_ℤ}
use lib.Signed.{◌<ℤ◌, lt_z_yes}
use lib.Pow.{pow_pos}
use Rattle.exact.specs.Fraction.{negᶠ}
use Rattle.exact.proofs.Order.{clashᶠ}
use Rattle.exact.proofs.WholeOrder.{pos_<ℤ, neg_ℤ_<ℤ}
use Rattle.bound.specs.Order.{Less}
use Rattle.bound.specs.Cell.{Grid}
use Rattle.bound.specs.Fractions.{fractions}
use Rattle.posit.specs.Format.{nar, Finite, negated}
use Rattle.posit.specs.Value.{value, signed}
use Rattle.posit.proofs.Mirror.{Side, below, above, side, nar_is_half, signed_below, signed_above, negated_zero, negated_positive, negated_finite, value_negated}
use Rattle.posit.proofs.Increasing.{value_lt}
use Rattle.posit.proofs.Patterns.{some_bit}
use Rattle.word.specs.Numbered.{count, pattern_at, number_of, value_at}

-- ---- a remainder of less than twice the divisor
pub once_over : {x m : ℕ} → m ≤ x → x < 2 * m → x % m ≡ x - m
once_over {x} {m} h k = mod-eq-sub-mod h ∙ mod-eq_of_lt (omega arith)

negative_below : (a c : ℕ) → 0 < a → neg_ℤ (pos a) <ℤ pos c
negative_below zero c h = absurd (omega arith)
negative_below (suc a) c h = lt_z_yes tt

module _ (n : ℕ) (one : 1 ≤ n) where
  pub half : 2 ^ n ≡ 2 * nar n
  half = nar_is_half n one

  pub nar_positive : 0 < nar n
  nar_positive = pow_pos (n - 1)

  -- ---- the number of a pattern: NaR, which has none, would stand behind the last
  pub number_below : {p : ℕ} → p < nar n → number_of n p ≡ p + nar n - 1
  number_below h = mod-eq_of_lt (omega (arith, half, nar_positive))

  pub number_above : {p : ℕ} → nar n < p → p < 2 ^ n → number_of n p ≡ p - nar n - 1
  number_above {p} h u = once_over {x = p + nar n - 1} (omega (arith, half)) (omega (arith, half)) ∙ omega (arith, half)

  -- ---- the pattern of a number
  pub pattern_low : (k : ℕ) → k + 1 < nar n → pattern_at n k ≡ k + nar n + 1
  pattern_low k h = mod-eq_of_lt (omega (arith, half))

  pub pattern_high : (k : ℕ) → nar n ≤ k + 1 → k < count n → pattern_at n k ≡ k + 1 - nar n
  pattern_high k h u = once_over {x = k + nar n + 1} (omega (arith, half)) (omega (arith, half)) ∙ omega (arith, half)

  pub pattern_finite : {k : ℕ} → k < count n → Finite n (pattern_at n k)
  pattern_finite {k} u = go (dec_lt (k + 1) (nar n))
    where
      go : Dec (k + 1 < nar n) → Finite n (pattern_at n k)
      go (yes h) = rw (pattern_low k h) (record { fits = omega (arith, half); not_nar = omega arith })
      go (no h) = rw (pattern_high k (omega arith) u) (record { fits = omega (arith, half); not_nar = omega (arith, half) })

  -- ---- the two are inverse
  pub number_fits : {p : ℕ} → Finite n p → number_of n p < count n
  number_fits {p} f = go (side f)
    where
      go : Side n p → number_of n p < count n
      go (below h) = omega (arith, number_below h, half)
      go (above h u) = omega (arith, number_above h u, half)

  pub pattern_of_number : {p : ℕ} → Finite n p → pattern_at n (number_of n p) ≡ p
  pattern_of_number {p} f = go (side f)
    where
      go : Side n p → pattern_at n (number_of n p) ≡ p
      go (below h) = rw (number_below h) (pattern_high (p + nar n - 1) (omega (arith, nar_positive)) (omega (arith, half)) ∙ omega (arith, nar_positive))
      go (above h u) = rw (number_above h u) (pattern_low (p - nar n - 1) (omega (arith, half)) ∙ omega arith)

  pub number_of_pattern : {k : ℕ} → k < count n → number_of n (pattern_at n k) ≡ k
  number_of_pattern {k} u = go (dec_lt (k + 1) (nar n))
    where
      go : Dec (k + 1 < nar n) → number_of n (pattern_at n k) ≡ k
      go (yes h) = rw (pattern_low k h) (number_above {p = k + nar n + 1} (omega arith) (omega (arith, half)) ∙ omega arith)
      go (no h) = rw (pattern_high k (omega arith) u) (number_below {p = k + 1 - nar n} (omega (arith, half)) ∙ omega (arith, half))

  -- ---- the numbers follow the order of the patterns as signed integers
  pub signed_increases : {p q : ℕ} → Finite n p → Finite n q → number_of n p < number_of n q → signed n p <ℤ signed n q
  signed_increases {p} {q} f g l = go (side f) (side g)
    where
      go : Side n p → Side n q → signed n p <ℤ signed n q
      go (below h) (below k) = rw (signed_below n h, signed_below n k) (pos_<ℤ.1 (omega (arith, number_below h, number_below k)))
      go (below h) (above k v) = absurd (omega (arith, number_below h, number_above k v, half))
      go (above h u) (below k) = rw (signed_above n h, signed_below n k) (negative_below (2 ^ n - p) q (omega arith))
      go (above h u) (above k v) =
          rw (signed_above n h, signed_above n k) (neg_ℤ_<ℤ.1 ((pos_<ℤ {m = 2 ^ n - q} {n = 2 ^ n - p}).1 (omega (arith, number_above h u, number_above k v))))

  -- ---- the number of the negated pattern, counted from the other side
  pub number_negated : {p : ℕ} → Finite n p → number_of n (negated n p) ≡ count n - suc (number_of n p)
  number_negated {p} f = go (side f) (eq-zero-or-pos p)
    where
      go : Side n p → (p ≡ 0) ⊎ (0 < p) → number_of n (negated n p) ≡ count n - suc (number_of n p)
      go s (inl e) = rw (e, negated_zero n, number_below {p = 0} (nar_positive)) (omega (arith, half))
      go (below h) (inr z) =
          rw (negated_positive n z f.fits, number_below h)
          (number_above {p = 2 ^ n - p} (omega (arith, half)) (omega arith) ∙ omega (arith, half))
      go (above h u) (inr z) =
          rw (negated_positive n z u, number_above h u)
          (number_below {p = 2 ^ n - p} (omega (arith, half)) ∙ omega (arith, half))

-- ---- the grid, and its mirror image
module _ (n es : ℕ) (one : 1 ≤ n) where
  pub values_increase : (j k : ℕ) → j < k → k < count n → Less fractions (value_at n es j) (value_at n es k)
  values_increase j k l u =
      let f : Finite n (pattern_at n j) = pattern_finite n one {k = j} (omega arith) in
      let g : Finite n (pattern_at n k) = pattern_finite n one {k = k} u in
      clashᶠ ((value_lt n es one f g).1
      (signed_increases n one f g (rw (number_of_pattern n one {k = j} (omega arith), number_of_pattern n one {k = k} u) l)))

  abbrev pub grid : Grid fractions
  grid = record { count = count n; value = value_at n es; increasing = values_increase }

  pub value_of_number : {p : ℕ} → Finite n p → value_at n es (number_of n p) ≡ value n es p
  value_of_number f = ap (value n es) (pattern_of_number n one f)

  pub mirrored_value : {k : ℕ} → k < count n → value_at n es (count n - suc k) ≡ negᶠ (value_at n es k)
  mirrored_value {k} u =
      let f : Finite n (pattern_at n k) = pattern_finite n one {k = k} u in
      ap (λ (i : ℕ). value_at n es (count n - suc i)) (sym (number_of_pattern n one {k = k} u))
      ∙ ap (value_at n es) (sym (number_negated n one f)) ∙ value_of_number (negated_finite one f) ∙ value_negated n es one f

-- ---- the posits of a format
abbrev pub posits : (n es : ℕ) → 3 ≤ n → Grid fractions
posits n es wide = grid n es (some_bit n wide)
