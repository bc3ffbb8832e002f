-- The greater of two doubles is that of the greater code, and a double times 2^-26 is that of a code less by twenty-six scales: its digits stay.
use Rattle.std.proofs.Common.{◌≡◌, ℕ, ◌+◌, ◌-◌, ◌*◌, ◌^◌, ◌<◌, ◌≤◌, max, false, cond, not, T, ltb, sym, refl, ap, ◌∙◌, le_trans, le_of_eq, lt_of_lt_of_le, le_of_lt, mul-le-mul_right, le_antisymm, lt_of_mul-lt-mul_right, mul-lt-mul_of_pos_right, mul-pos, lt_of_not-le, zero-add, not-le_of_lt, le_of_mul-le-mul_right, arith, pow_pos, pow_mono, pow-add, shl_lt, le-ltb, lt-ltb}
use native.Mathlib.Nat.{max-eq_left, max-eq_right}
use native.Mathlib.Decide.{dec_le}
use lib.Ieee.{Float, nan, inf, fin, binary64, up, down, mul, lt, is_nan, nan_bits, to_bits, of_bits}
use lib.Ieee.Exact.{HasValue}
use lib.Ieee.Fits.{down_pos}
use Rattle.code.specs.Code.{scale_in, digits_in}
use Rattle.code.proofs.Doubles.{same_value, no_nan, word_of, bits_of, whole_written}
use Rattle.code.proofs.CodeBits.{units_of, powers_meet, plain_value, plain_number, rounded, written_units}
use Rattle.code.proofs.ProductCode.{multiplied}

-- ---- codes compare as their numbers do
pub units_less : (c d : ℕ) → c < d → units_of c < units_of d
units_less c d less =
    elim (dec_le (scale_in 52 d) (scale_in 52 c)) [
      | yes k ↦
          let same : scale_in 52 c ≡ scale_in 52 d = omega arith in
          let fewer : digits_in 52 c < digits_in 52 d = omega (arith, same) in
          rw same (mul-lt-mul_of_pos_right fewer (pow_pos (scale_in 52 d)))
      | no n ↦
          let room : 53 + scale_in 52 c ≤ 52 + scale_in 52 d = omega (arith, lt_of_not-le n) in
          let first : 2 ^ 52 ≤ digits_in 52 d = omega arith in
          let least : 2 ^ (52 + scale_in 52 d) ≤ units_of d = rw (pow-add 2 52 (scale_in 52 d)) (mul-le-mul_right (2 ^ scale_in 52 d) first) in
          lt_of_lt_of_le (shl_lt 53 (scale_in 52 c) (omega arith)) (le_trans (pow_mono room) least)
    ]

pub units_most : (c d : ℕ) → c ≤ d → units_of c ≤ units_of d
units_most c d most = elim (dec_le d c) [ yes k ↦ le_of_eq (ap units_of (le_antisymm most k)) | no n ↦ le_of_lt (units_less c d (lt_of_not-le n)) ]

units_back : (c d : ℕ) → units_of c ≤ units_of d → c ≤ d
units_back c d most = elim (dec_le c d) [ yes k ↦ k | no n ↦ absurd (not-le_of_lt (units_less d c (lt_of_not-le n)) most) ]

units_same : (c d : ℕ) → units_of c ≡ units_of d → c ≡ d
units_same c d same = le_antisymm (units_back c d (le_of_eq same)) (units_back d c (le_of_eq (sym same)))

-- ---- the bits of a double that is the number of a code
module _ (r : Float) (c : ℕ) (at_least : 2 ^ 52 ≤ c) (less : c < 2047 * 2 ^ 52) (value : HasValue r false (units_of c) (2 ^ 1075)) where
  abbrev half : ℕ
  half = digits_in 52 c * 2 ^ (scale_in 52 c - 1)

  halved : half * 2 ≡ units_of c
  halved = powers_meet (digits_in 52 c) (scale_in 52 c - 1) 1 (scale_in 52 c) 0 (omega arith) ∙ omega arith

  many : 2 ^ 52 ≤ half
  many = omega (arith, halved, units_most (2 ^ 52) c at_least)

  code_bits : to_bits binary64 r ≡ c
  code_bits =
      let n = half in
      let smallest : HasValue r false n (2 ^ 1074) = same_value r false (units_of c) (2 ^ 1075) n (2 ^ 1074) (pow_pos 1075) (powers_meet (digits_in 52 c) (scale_in 52 c - 1) 1075 (scale_in 52 c) 1074 (omega arith)) value in
      let written = whole_written n (digits_in 52 c) (scale_in 52 c - 1) refl (omega arith) many in
      bits_of r false n smallest ∙ zero-add (word_of n) ∙ units_same (word_of n) c (written_units n (word_of n) written ∙ halved)

-- ---- twenty-six places below
abbrev pub lowered : ℕ → ℕ
lowered y = y - 26 * 2 ^ 52

-- the bits of 2^-26
abbrev below : ℕ
below = 0x3e50_0000_0000_0000

below_value : HasValue (of_bits binary64 below) false (2 ^ 1049) (2 ^ 1075)
below_value = plain_value below (omega arith) (omega arith)

pub below_number : T (not (nan_bits binary64 below))
below_number = plain_number below (omega arith) (omega arith)

module _ (y : ℕ) (at_least : 27 * 2 ^ 52 ≤ y) (less : y < 2047 * 2 ^ 52) where
  lowered_units : units_of (lowered y) * 2 ^ 1075 ≡ units_of y * 2 ^ 1049
  lowered_units =
      let digits : digits_in 52 (lowered y) ≡ digits_in 52 y = omega arith in
      rw digits (powers_meet (digits_in 52 y) (scale_in 52 (lowered y)) 1075 (scale_in 52 y) 1049 (omega arith))

  lowered_small : units_of (lowered y) < 2 ^ 2099
  lowered_small =
      let room : 53 + scale_in 52 (lowered y) ≤ 2099 = omega arith in
      lt_of_lt_of_le (shl_lt 53 (scale_in 52 (lowered y)) (omega arith)) (pow_mono room)

  -- the product has the digits of y, so that it is not rounded
  lowered_value : HasValue (mul binary64 (of_bits binary64 y) (of_bits binary64 below)) false (units_of (lowered y)) (2 ^ 1075)
  lowered_value =
      rw (multiplied binary64 (of_bits binary64 y) (of_bits binary64 below) (units_of y) (2 ^ 1049) (2 ^ 1075) (units_of (lowered y)) (pow_pos 1075) (plain_value y (omega arith) less) below_value lowered_units)
      (rounded false (units_of (lowered y)) (digits_in 52 (lowered y)) (scale_in 52 (lowered y)) refl (omega arith) (omega arith) lowered_small)

-- ---- the greater of two doubles
cross_test : (A B W a b c : ℕ) → 0 < W → 0 < c → A * c ≡ a * W → B * c ≡ b * W → ltb A B ≡ ltb a b
cross_test A B W a b c some C p q =
    elim (dec_le b a) [
      | yes m ↦ le-ltb A B (le_of_mul-le-mul_right {k = c} (rw (p, q) (mul-le-mul_right W m)) C) ∙ sym (le-ltb a b m)
      | no n ↦ lt-ltb A B (lt_of_mul-lt-mul_right c (rw (p, q) (mul-lt-mul_of_pos_right (lt_of_not-le n) some))) ∙ sym (lt-ltb a b (lt_of_not-le n))
    ]

-- two that are not negative compare as their sizes do
lt_values : (x y : Float) (a b c : ℕ) → 0 < c → HasValue x false a c → HasValue y false b c → lt x y ≡ ltb a b
unfolding lt
lt_values nan y a b c C h k = absurd h
lt_values (inf u) y a b c C h k = absurd h
lt_values (fin u m e) nan a b c C h k = absurd k
lt_values (fin u m e) (inf v) a b c C h k = absurd k
lt_values (fin u m e) (fin v n g) a b c C h k =
    rw (h.0, k.0)
    (cross_test (m * up e * down g) (n * up g * down e) (down e * down g) a b c (mul-pos (down_pos e) (down_pos g)) C
    (omega (arith, ap (λ (x : ℕ). x * down g) h.1))
    (omega (arith, ap (λ (x : ℕ). x * down e) k.1)))

greater_value : (x y : Float) (c d : ℕ) → HasValue x false (units_of c) (2 ^ 1075) → HasValue y false (units_of d) (2 ^ 1075)
    → HasValue (cond (lt x y) y x) false (units_of (max c d)) (2 ^ 1075)
greater_value x y c d h k =
    let test = lt_values x y (units_of c) (units_of d) (2 ^ 1075) (pow_pos 1075) h k in
    elim (dec_le d c) [
      | yes m ↦ rw (test, le-ltb (units_of c) (units_of d) (units_most d c m), max-eq_left m) h
      | no n ↦ rw (test, lt-ltb (units_of c) (units_of d) (units_less c d (lt_of_not-le n)), max-eq_right (le_of_lt (lt_of_not-le n))) k
    ]

-- ---- x, or twenty-six places below y where that is more
module _ (x y : ℕ) (x_least : 2 ^ 52 ≤ x) (x_less : x < 2047 * 2 ^ 52) (y_least : 27 * 2 ^ 52 ≤ y) (y_less : y < 2047 * 2 ^ 52) where
  abbrev lesser : Float
  lesser = mul binary64 (of_bits binary64 y) (of_bits binary64 below)

  abbrev raised_double : Float
  raised_double = cond (lt (of_bits binary64 x) lesser) lesser (of_bits binary64 x)

  raised_value : HasValue raised_double false (units_of (max x (lowered y))) (2 ^ 1075)
  raised_value = greater_value (of_bits binary64 x) lesser x (lowered y) (plain_value x x_least x_less) (lowered_value y y_least y_less)

  pub raised_number : T (not (is_nan raised_double))
  raised_number = no_nan raised_double false (units_of (max x (lowered y))) (2 ^ 1075) raised_value

  pub raised_bits : to_bits binary64 raised_double ≡ max x (lowered y)
  raised_bits = code_bits raised_double (max x (lowered y)) (omega arith) (omega arith) raised_value
