-- Powers of two and floors of natural numbers: what `lib.Pow` and `native.Mathlib.Nat` leave out. Exponents are compared by the
-- powers, a floor is the one number that its remainder allows, and a field of bits inside a field is a field.
use mathlib.Core.Path.{◌≡◌, refl, sym, ap, ◌∙◌}
use mathlib.Core.Logic.{◌↔◌, ◌⊎◌, inl, inr}
use Prim.Native.Nat.{ℕ, zero, suc, ◌+◌, ◌*◌, ◌-◌, ◌/◌, ◌%◌, ◌^◌, ◌≤◌, ◌<◌}
use native.Mathlib.Nat.{le_antisymm, le_of_eq, lt_of_not-le, not-le_of_lt, sub-add_cancel, mul-le-mul_left, le_of_mul-le-mul_left, lt_of_mul-lt-mul_left, mul-lt-mul_of_pos_left, eq_of_mul-eq-mul_left, le-div_iff_mul-le, div-lt_iff_lt-mul, mul-div_cancel, mul_assoc, mul-div-mul_right, lt_of_le_of_lt}
use native.Mathlib.Decide.{dec_le}
use native.Mathlib.Omega.{arith}
use lib.Pow.{pow_pos, pow_mono, pow-lt, pow-add, shr_lt, shr-shr, field, mod-mod-pow}
use lib.Ieee.{size}
use lib.Ieee.Digits.{size-lt, size_reaches}

-- ---- exponents
pub pow_split : {i j : ℕ} → j ≤ i → 2 ^ i ≡ 2 ^ (i - j) * 2 ^ j
pow_split {i} {j} h = ap (λ (n : ℕ). 2 ^ n) (sym (sub-add_cancel h)) ∙ pow-add 2 (i - j) j

pub pow_le_cancel : (i j : ℕ) → 2 ^ i ≤ 2 ^ j → i ≤ j
pow_le_cancel i j h = elim (dec_le i j) [ yes k ↦ k | no n ↦ absurd (not-le_of_lt (pow-lt (lt_of_not-le n)) h) ]

pub pow_lt_cancel : (i j : ℕ) → 2 ^ i < 2 ^ j → i < j
pow_lt_cancel i j h = elim (dec_le j i) [ yes k ↦ absurd (not-le_of_lt h (pow_mono k)) | no n ↦ lt_of_not-le n ]

pub pow_inj : (i j : ℕ) → 2 ^ i ≡ 2 ^ j → i ≡ j
pow_inj i j e = le_antisymm (pow_le_cancel i j (le_of_eq e)) (pow_le_cancel j i (le_of_eq (sym e)))

-- the powers beside a number: there is one pair
pub pow_bracket : (x : ℕ) → 0 < x → (j : ℕ) × (2 ^ j ≤ x) × (x < 2 ^ suc j)
pow_bracket x h = at_size (size x) refl
  where
    at_size : (s : ℕ) → size x ≡ s → (j : ℕ) × (2 ^ j ≤ x) × (x < 2 ^ suc j)
    at_size zero e = absurd (omega (arith, rw e at (size-lt x)))
    at_size (suc j) e = (j, size_reaches x j (omega arith), rw e at (size-lt x))

pub pow_bracket_unique : (i j : ℕ) {x : ℕ} → 2 ^ i ≤ x → x < 2 ^ suc i → 2 ^ j ≤ x → x < 2 ^ suc j → i ≡ j
pow_bracket_unique i j a b c d = omega (arith, pow_lt_cancel i (suc j) (lt_of_le_of_lt a d), pow_lt_cancel j (suc i) (lt_of_le_of_lt c b))

-- ---- a power as a factor
pub pow_mul_le : (k : ℕ) {a b : ℕ} → (2 ^ k * a ≤ 2 ^ k * b) ↔ (a ≤ b)
pow_mul_le k = (λ h. le_of_mul-le-mul_left h (pow_pos k), λ h. mul-le-mul_left (2 ^ k) h)

pub pow_mul_lt : (k : ℕ) {a b : ℕ} → (2 ^ k * a < 2 ^ k * b) ↔ (a < b)
pow_mul_lt k = (λ h. lt_of_mul-lt-mul_left (2 ^ k) h, λ h. mul-lt-mul_of_pos_left h (pow_pos k))

pub pow_mul_inj : (k a b : ℕ) → 2 ^ k * a ≡ 2 ^ k * b → a ≡ b
pow_mul_inj k a b e = eq_of_mul-eq-mul_left (2 ^ k) (pow_pos k) a b e

-- ---- floors
pub floor_unique : (x d q : ℕ) → q * d ≤ x → x < suc q * d → x / d ≡ q
floor_unique x d q h k = le_antisymm (omega (arith, (div-lt_iff_lt-mul {k = d} {x = x} {y = suc q} d_above).1 k)) ((le-div_iff_mul-le d_above).1 h)
  where
    d_above : 0 < d
    d_above = omega arith

pub floor_lt : {n x : ℕ} (k : ℕ) → k ≤ n → x < 2 ^ n → x / 2 ^ k < 2 ^ (n - k)
floor_lt {n} {x} k h l = shr_lt (n - k) k (rw (sub-add_cancel h) l)

-- a multiple of a power, cut by a power
pub floor_of_more : (x j k : ℕ) → x * 2 ^ (j + k) / 2 ^ k ≡ x * 2 ^ j
floor_of_more x j k = rw (pow-add 2 j k, ← mul_assoc x (2 ^ j) (2 ^ k)) (mul-div_cancel (x * 2 ^ j) (pow_pos k))

pub floor_of_less : (x j k : ℕ) → x * 2 ^ j / 2 ^ (k + j) ≡ x / 2 ^ k
floor_of_less x j k = ap (λ (n : ℕ). x * 2 ^ j / n) (pow-add 2 k j) ∙ mul-div-mul_right x (2 ^ k) (pow_pos j)

-- ---- fields
pub field_in_field : (x i : ℕ) {j : ℕ} (a b : ℕ) → a + b ≤ j → x / 2 ^ i % 2 ^ j / 2 ^ a % 2 ^ b ≡ x / 2 ^ (i + a) % 2 ^ b
field_in_field x i {j} a b h = rw (exponent, field, mod-mod-pow, shr-shr)
  where
    exponent : j ≡ j - (a + b) + b + a
    exponent = omega arith

-- ---- parity
pub parity : (x : ℕ) → (x % 2 ≡ 0) ⊎ (x % 2 ≡ 1)
parity x = elim (dec_le 1 (x % 2)) [ yes h ↦ inr (omega arith) | no n ↦ inl (omega arith) ]
