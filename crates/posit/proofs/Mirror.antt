-- Negation takes p to 2^n - p, which changes the side of NaR; the units below NaR are the multiples, above it those of 2^n - p, negative.
use Rattle.std.proofs.Common.{◌≡◌, ℕ, suc, ◌+◌, ◌-◌, ◌*◌, ◌%◌, ◌^◌, ◌<◌, ◌≤◌, Bool, true, false, not, T, ltb, ◌⊎◌, ℤ, pos, neg_ℤ, sym, refl, ap, ◌∙◌, inl, inr, mod-lt, mod-eq_of_lt, eq-zero-or-pos, arith, lt→ltb, pow_pos}
use native.Mathlib.Nat.{pow-succ', mod_self}
use native.Mathlib.Decide.{dec_lt}
use lib.Arith.{le→nltb}
use lib.IntN.{neg_ℤ-neg_ℤ}
use Rattle.exact.specs.Fraction.{over_power, negᶠ}
use Rattle.posit.specs.Format.{nar, m, Finite, negated}
use Rattle.posit.specs.Value.{multiple, units, value, signed}
use Rattle.posit.proofs.Order.{multiple_zero}

-- NaR is the middle of the patterns
pub nar_is_half : (n : ℕ) → 1 ≤ n → 2 ^ n ≡ 2 * nar n
nar_is_half n k = ap (λ (i : ℕ). 2 ^ i) {x = n} {y = suc (n - 1)} (omega arith) ∙ pow-succ' 2 (n - 1)

-- one bit wider
pub power_wider : (n : ℕ) → 2 ^ (n + 1) ≡ 2 * 2 ^ n
power_wider n = ap (λ (i : ℕ). 2 ^ i) {x = n + 1} {y = suc n} (omega arith) ∙ pow-succ' 2 n

pub nar_wider : (n : ℕ) → nar (n + 1) ≡ 2 ^ n
nar_wider n = ap (λ (i : ℕ). 2 ^ i) (omega arith)

-- a finite posit lies below NaR or above it
pub data Side (n p : ℕ) : Type 0 where
  below : p < nar n → Side n p
  above : nar n < p → p < 2 ^ n → Side n p

pub side : {n p : ℕ} → Finite n p → Side n p
side {n} {p} f = by_order (dec_lt p (nar n))
  where
    by_order : Dec (p < nar n) → Side n p
    by_order (yes h) = below h
    by_order (no h) = above (let d = f.not_nar in omega arith) f.fits

-- ---- negated patterns
pub negated_zero : (n : ℕ) → negated n 0 ≡ 0
negated_zero n = let s : 2 ^ n - 0 ≡ 2 ^ n = omega arith in rw s (mod_self (2 ^ n))

pub negated_positive : (n : ℕ) {p : ℕ} → 0 < p → p < 2 ^ n → negated n p ≡ 2 ^ n - p
negated_positive n h u = mod-eq_of_lt (omega arith)

pub negated_negated : (n : ℕ) {p : ℕ} → p < 2 ^ n → negated n (negated n p) ≡ p
negated_negated n {p} u = by_zero (eq-zero-or-pos p)
  where
    by_zero : (p ≡ 0) ⊎ (0 < p) → negated n (negated n p) ≡ p
    by_zero (inl e) = rw (e, negated_zero n, negated_zero n)
    by_zero (inr h) = rw (negated_positive n h u) (negated_positive n {p = 2 ^ n - p} (omega arith) (omega arith) ∙ omega arith)

pub negated_nar : (n : ℕ) → 1 ≤ n → negated n (nar n) ≡ nar n
negated_nar n k = negated_positive n (pow_pos (n - 1)) (omega (arith, nar_is_half n k, pow_pos (n - 1))) ∙ omega (arith, nar_is_half n k)

pub negated_fits : (n p : ℕ) → negated n p < 2 ^ n
negated_fits n p = mod-lt (2 ^ n - p) (pow_pos n)

pub negated_finite : {n p : ℕ} → 1 ≤ n → Finite n p → Finite n (negated n p)
negated_finite {n} {p} k f =
    record { fits = negated_fits n p; not_nar = λ e. f.not_nar (sym (negated_negated n f.fits) ∙ ap (negated n) e ∙ negated_nar n k) }

pub negated_parity : (n : ℕ) {p : ℕ} → 1 ≤ n → p < 2 ^ n → negated n p % 2 ≡ p % 2
negated_parity n {p} k u = by_zero (eq-zero-or-pos p)
  where
    by_zero : (p ≡ 0) ⊎ (0 < p) → negated n p % 2 ≡ p % 2
    by_zero (inl e) = rw (e, negated_zero n)
    by_zero (inr h) = rw (negated_positive n h u) (omega (arith, nar_is_half n k))

-- the pattern between two neighbours, one bit longer
pub negated_middle : (n U : ℕ) {W : ℕ} → W < 2 ^ n → W ≡ U + 1 → negated (n + 1) (2 * U + 1) ≡ 2 * negated n W + 1
negated_middle n U {W} w e =
    let s : 2 ^ (n + 1) ≡ 2 * 2 ^ n = power_wider n in
    negated_positive (n + 1) {p = 2 * U + 1} (omega arith) (omega arith) ∙ rw (negated_positive n {p = W} (omega arith) w) (omega arith)

-- ---- what units and signed integers read off
is_true : (c : Bool) → T c → c ≡ true
is_true true t = refl
is_true false t = absurd t

is_false : (c : Bool) → T (not c) → c ≡ false
is_false true t = absurd t
is_false false t = refl

test_below : (n : ℕ) {p : ℕ} → p < nar n → ltb p (nar n) ≡ true
test_below n {p} h = is_true (ltb p (nar n)) (lt→ltb p (nar n) h)

test_above : (n : ℕ) {p : ℕ} → nar n < p → ltb p (nar n) ≡ false
test_above n {p} h = is_false (ltb p (nar n)) (le→nltb p (nar n) (omega arith))

pub signed_below : (n : ℕ) {p : ℕ} → p < nar n → signed n p ≡ pos p
signed_below n h = rw (test_below n h)

pub signed_above : (n : ℕ) {p : ℕ} → nar n < p → signed n p ≡ neg_ℤ (pos (2 ^ n - p))
signed_above n h = rw (test_above n h)

pub units_below : (n es : ℕ) {p : ℕ} → p < nar n → units n es p ≡ pos (multiple (n - 1) es p)
unfolding units
units_below n es h = rw (test_below n h, units)

pub units_above : (n es : ℕ) {p : ℕ} → nar n < p → p < 2 ^ n → units n es p ≡ neg_ℤ (pos (multiple (n - 1) es (2 ^ n - p)))
unfolding units
units_above n es {p} h u = rw (test_above n h, units) (ap (λ (q : ℕ). neg_ℤ (pos (multiple (n - 1) es q))) (negated_positive n {p = p} (omega arith) u))

pub units_zero : (n es : ℕ) → units n es 0 ≡ pos 0
units_zero n es = units_below n es (pow_pos (n - 1)) ∙ ap pos (multiple_zero (n - 1) es)

pub units_negated : (n es : ℕ) {p : ℕ} → 1 ≤ n → Finite n p → units n es (negated n p) ≡ neg_ℤ (units n es p)
units_negated n es {p} k f = by_side (side f) (eq-zero-or-pos p)
  where
    half : 2 ^ n ≡ 2 * nar n
    half = nar_is_half n k

    back : p < 2 ^ n → 2 ^ n - (2 ^ n - p) ≡ p
    back u = omega arith

    by_side : Side n p → (p ≡ 0) ⊎ (0 < p) → units n es (negated n p) ≡ neg_ℤ (units n es p)
    by_side s (inl e) = rw (e, negated_zero n, units_zero n es)
    by_side (below h) (inr z) =
        rw (negated_positive n z f.fits, units_below n es h, units_above n es {p = 2 ^ n - p} (omega (arith, half)) (omega (arith, f.fits)), back f.fits)
    by_side (above h u) (inr z) =
        rw (negated_positive n z u, units_above n es h u, neg_ℤ-neg_ℤ) (units_below n es (omega (arith, half)))

pub value_negated : (n es : ℕ) {p : ℕ} → 1 ≤ n → Finite n p → value n es (negated n p) ≡ negᶠ (value n es p)
value_negated n es k f = ap (λ (z : ℤ). over_power z (m n es)) (units_negated n es k f)

-- a posit above NaR is worth the negative of its negated pattern
pub value_above : (n es : ℕ) {p : ℕ} → 1 ≤ n → nar n < p → p < 2 ^ n → value n es p ≡ negᶠ (value n es (negated n p))
value_above n es {p} k h u =
    let f : Finite n p = record { fits = u; not_nar = omega arith } in
    rw (negated_negated n u) at (value_negated n es k (negated_finite k f))
