-- Codes as doubles: the bits of a double of normal size are its scale and its digits, and one of few digits is not rounded.
use Rattle.std.proofs.Common.{◌≡◌, ℕ, ◌+◌, ◌-◌, ◌*◌, ◌/◌, ◌%◌, ◌^◌, ◌<◌, ◌≤◌, Bool, true, false, not, T, sym, refl, ap, ◌∙◌, subst, lt_of_le_of_lt, mul-le-mul_right, lt_of_mul-lt-mul_right, zero-add, arith, pow_pos, pow_mono, pow-add, shl_lt}
use native.Mathlib.Nat.{eq_of_mul-eq-mul_right}
use lib.Ieee.{Float, binary64, odd, round, nan_bits, of_bits, to_bits}
use lib.Ieee.Bits.{nan_bits_is}
use lib.Ieee.Exact.{HasValue, odd_sign}
use lib.Ieee.Scale.{round_same}
use mir.Val.{bool_byte}
use Rattle.exact.proofs.Powers.{pow_lt_cancel}
use Rattle.posit.proofs.FloatMade.{unsigned_read, signed_read}
use Rattle.code.specs.Code.{scale_in, digits_in, IsCode}
use Rattle.code.proofs.Doubles.{same_value, no_nan, exactly_rounded, word_of, bits_of, Written, whole_written}

-- a code's number in units of 2^-1075
abbrev pub units_of : ℕ → ℕ
units_of c = digits_in 52 c * 2 ^ scale_in 52 c

-- ---- a number over one power of two and over another
pub powers_meet : (g i j k l : ℕ) → i + j ≡ k + l → g * 2 ^ i * 2 ^ j ≡ g * 2 ^ k * 2 ^ l
powers_meet g i j k l e =
    let same : 2 ^ i * 2 ^ j ≡ 2 ^ k * 2 ^ l = sym (pow-add 2 i j) ∙ ap (λ (n : ℕ). 2 ^ n) e ∙ pow-add 2 k l in
    omega (arith, ap (λ (n : ℕ). g * n) same)

-- ---- the bits of a double of normal size say its value
fields_read : (s : Bool) (x t : ℕ) → 0 < x → x < 2047 → t < 2 ^ 52 → of_bits binary64 (bool_byte s * 2 ^ 63 + (x * 2 ^ 52 + t)) ≡ odd 53 s (2 ^ 52 + t) (x - 1) 1074
fields_read true x t some few less = signed_read x t some few less
fields_read false x t some few less = rw (zero-add (x * 2 ^ 52 + t)) (unsigned_read x t some few less)

module _ (s : Bool) (c : ℕ) (at_least : 2 ^ 52 ≤ c) (less : c < 2047 * 2 ^ 52) where
  code_read : of_bits binary64 (bool_byte s * 2 ^ 63 + c) ≡ odd 53 s (digits_in 52 c) (scale_in 52 c - 1) 1074
  code_read =
      let parts : c ≡ scale_in 52 c * 2 ^ 52 + c % 2 ^ 52 = omega arith in
      ap (λ (n : ℕ). of_bits binary64 (bool_byte s * 2 ^ 63 + n)) parts
      ∙ fields_read s (scale_in 52 c) (c % 2 ^ 52) (omega arith) (omega arith) (omega arith)

  pub code_value_says : HasValue (of_bits binary64 (bool_byte s * 2 ^ 63 + c)) s (units_of c) (2 ^ 1075)
  code_value_says =
      rw code_read
      (same_value (odd 53 s (digits_in 52 c) (scale_in 52 c - 1) 1074) s (digits_in 52 c * 2 ^ (scale_in 52 c - 1)) (2 ^ 1074) (units_of c) (2 ^ 1075) (pow_pos 1074)
      (powers_meet (digits_in 52 c) (scale_in 52 c) 1074 (scale_in 52 c - 1) 1075 (omega arith))
      (odd_sign 53 s (digits_in 52 c) (scale_in 52 c - 1) 1074))

  pub code_number : T (not (nan_bits binary64 (bool_byte s * 2 ^ 63 + c)))
  code_number = rw (nan_bits_is binary64 (bool_byte s * 2 ^ 63 + c)) (no_nan _ s (units_of c) (2 ^ 1075) code_value_says)

-- without a sign
unsigned : (c : ℕ) → bool_byte false * 2 ^ 63 + c ≡ c
unsigned c = zero-add c

module _ (c : ℕ) (at_least : 2 ^ 52 ≤ c) (less : c < 2047 * 2 ^ 52) where
  pub plain_value : HasValue (of_bits binary64 c) false (units_of c) (2 ^ 1075)
  plain_value = subst (λ (n : ℕ). HasValue (of_bits binary64 n) false (units_of c) (2 ^ 1075)) (unsigned c) (code_value_says false c at_least less)

  pub plain_number : T (not (nan_bits binary64 c))
  plain_number = subst (λ (n : ℕ). T (not (nan_bits binary64 n))) (unsigned c) (code_number false c at_least less)

as_it_is : (a b : ℕ) → a < b → a * 2 ^ 0 < b
as_it_is a b h = omega arith

-- ---- a number of no more than 53 digits, in units of 2^-1075, and in units of the smallest double
module _ (s : Bool) (N q m : ℕ) (is : N ≡ q * 2 ^ m) (some : 1 ≤ m) where
  abbrev half : ℕ
  half = q * 2 ^ (m - 1)

  doubled : N ≡ half * 2
  doubled = is ∙ omega (arith, powers_meet q m 0 (m - 1) 1 (omega arith))

  halves : half * 2 ^ 1075 ≡ N * 2 ^ 1074
  halves = powers_meet q (m - 1) 1075 m 1074 (omega arith) ∙ ap (λ (n : ℕ). n * 2 ^ 1074) (sym is)

  half_less : N < 2 ^ 2099 → half < 2 ^ 2098
  half_less less = lt_of_mul-lt-mul_right 2 (rw (sym doubled) less)

  pub rounded : q < 2 ^ 53 → N < 2 ^ 2099 → HasValue (round binary64 s N (2 ^ 1075)) s N (2 ^ 1075)
  rounded few less =
      rw (round_same binary64 s N (2 ^ 1075) half (2 ^ 1074) (pow_pos 1075) (pow_pos 1074) (sym halves))
      (same_value (round binary64 s half (2 ^ 1074)) s half (2 ^ 1074) N (2 ^ 1075) (pow_pos 1074) (sym halves)
      (exactly_rounded s half 1074 0 refl q (m - 1) refl few (as_it_is half (2 ^ 2098) (half_less less))))

-- ---- the bits of a double of few digits
pub record Bits (r : Float) (s : Bool) (N : ℕ) : Type 0 where
  pub code : ℕ
  pub bits : to_bits binary64 r ≡ bool_byte s * 2 ^ 63 + code
  pub at_least : 2 ^ 52 ≤ code
  pub less : code < 2047 * 2 ^ 52
  pub units : units_of code ≡ N
  pub few : code % 2 ^ 12 ≡ 0

-- d·2^i = q·2^j with twelve places more on the right: d ends in twelve zeros
ends_in_zeros : (d q i j : ℕ) → d * 2 ^ i ≡ q * 2 ^ j → i + 12 ≤ j → d % 2 ^ 12 ≡ 0
ends_in_zeros d q i j e more =
    let split : q * 2 ^ j * 2 ^ 0 ≡ q * 2 ^ (j - (i + 12)) * 2 ^ (i + 12) = powers_meet q j 0 (j - (i + 12)) (i + 12) (omega arith) in
    let is : d ≡ q * 2 ^ (j - (i + 12)) * 2 ^ 12 = eq_of_mul-eq-mul_right (2 ^ i) (pow_pos i) d (q * 2 ^ (j - (i + 12)) * 2 ^ 12) (omega (arith, e, split, ap (λ (n : ℕ). q * 2 ^ (j - (i + 12)) * n) (pow-add 2 i 12))) in
    omega (arith, is)

-- what is written of a number n of the smallest doubles
pub written_units : (n word : ℕ) → Written n word → units_of word ≡ n * 2
written_units n word w =
    let scale : scale_in 52 word ≡ w.shift + 1 = omega (arith, w.says, w.at_least, w.less) in
    let digits : digits_in 52 word ≡ w.digits = omega (arith, w.says, w.at_least, w.less) in
    rw (scale, digits, pow-add 2 w.shift 1) (omega (arith, w.number))

module _ (n q j word : ℕ) (is : n ≡ q * 2 ^ j) (few : q < 2 ^ 41) (less : n < 2 ^ 2098) (w : Written n word) where
  reaches : (k : ℕ) → n < 2 ^ k → 52 + w.shift < k
  reaches k below = pow_lt_cancel (52 + w.shift) k (rw (pow-add 2 52 w.shift) (lt_of_le_of_lt (mul-le-mul_right (2 ^ w.shift) w.at_least) (rw (sym w.number) below)))

  word_less : word < 2047 * 2 ^ 52
  word_less = omega (arith, w.says, w.less, reaches 2098 less)

  word_few : word % 2 ^ 12 ≡ 0
  word_few =
      let zeros = ends_in_zeros w.digits q w.shift j (sym w.number ∙ is) (omega (arith, reaches (41 + j) (rw is (shl_lt 41 j few)))) in
      omega (arith, w.says, zeros)

pub value_bits : (r : Float) (s : Bool) (N q m : ℕ) → HasValue r s N (2 ^ 1075) → N ≡ q * 2 ^ m → q < 2 ^ 41 → 2 ^ 53 ≤ N → N < 2 ^ 2099 → Bits r s N
value_bits r s N q m value is few large less =
    let some : 1 ≤ m = omega (arith, pow_lt_cancel 53 (41 + m) (lt_of_le_of_lt large (rw is (shl_lt 41 m few)))) in
    let n = q * 2 ^ (m - 1) in
    let double = doubled s N q m is some in
    let written = whole_written n q (m - 1) refl (omega arith) (omega (arith, double)) in
    record {
      code = word_of n;
      bits = bits_of r s n (same_value r s N (2 ^ 1075) n (2 ^ 1074) (pow_pos 1075) (halves s N q m is some) value);
      at_least = omega (arith, written.says, written.at_least);
      less = word_less n q (m - 1) (word_of n) refl few (half_less s N q m is some less) written;
      units = written_units n (word_of n) written ∙ sym double;
      few = word_few n q (m - 1) (word_of n) refl few (half_less s N q m is some less) written;
    }

-- ---- the code of a posit
-- its fifteen digits: zeros stand behind them
abbrev pub fifteen : ℕ → ℕ
fifteen c = digits_in 52 c / 2 ^ 38

pub fifteen_are : (c : ℕ) → c % 2 ^ 38 ≡ 0 → digits_in 52 c ≡ fifteen c * 2 ^ 38
fifteen_are c few = omega arith

pub units_by_fifteen : (c : ℕ) → c % 2 ^ 38 ≡ 0 → units_of c ≡ fifteen c * 2 ^ (38 + scale_in 52 c)
units_by_fifteen c few = rw (pow-add 2 38 (scale_in 52 c)) (omega (arith, ap (λ (n : ℕ). n * 2 ^ scale_in 52 c) (fifteen_are c few)))

module _ {es c : ℕ} (small : es ≤ 2) (is : IsCode es c) where
  pub code_held : (27 * 2 ^ 52 ≤ c) × (c < 2047 * 2 ^ 52)
  code_held = (omega (arith, is.at_least, pow_mono small), omega (arith, is.less, pow_mono small))

  pub posit_value : HasValue (of_bits binary64 c) false (units_of c) (2 ^ 1075)
  posit_value = plain_value c (omega (arith, code_held.0)) code_held.1

  pub posit_number : T (not (nan_bits binary64 c))
  posit_number = plain_number c (omega (arith, code_held.0)) code_held.1
