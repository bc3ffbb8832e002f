-- The product of two codes is a double: fifteen digits by fifteen are no more than thirty, so it is not rounded, and its scale is the sum of both.
use Rattle.std.proofs.Common.{◌≡◌, ℕ, ◌+◌, ◌-◌, ◌*◌, ◌^◌, ◌<◌, ◌≤◌, false, not, T, pos, sym, refl, ap, ◌∙◌, le_trans, lt_of_lt_of_le, mul-le-mul_right, mul-le-mul, mul-pos, zero-add, arith, pow_pos, pow_mono, pow-add, shl_lt}
use native.Mathlib.Nat.{eq_of_mul-eq-mul_right}
use lib.Ieee.{Float, nan, inf, fin, Format, binary64, up, down, round, mul, is_nan, of_bits, to_bits}
use lib.Ieee.Exact.{HasValue}
use lib.Ieee.Fits.{down_pos}
use lib.Ieee.Scale.{round_same}
use Rattle.exact.specs.Fraction.{◌≈◌, ◌*ᶠ◌, over_power}
use Rattle.exact.proofs.Order.{◌⨾◌}
use Rattle.exact.proofs.OverPower.{over_power_*ᶠ, over_power_pos_≈}
use Rattle.code.specs.Code.{IsCode, scale_in, code_value}
use Rattle.code.specs.Coded.{Codes}
use Rattle.code.proofs.Doubles.{no_nan}
use Rattle.code.proofs.CodeBits.{units_of, rounded, Bits, value_bits, fifteen, units_by_fifteen, posit_value}
use Rattle.code.proofs.Known.{bits_codes}

-- ---- the product of two doubles, by fractions of their size
cross_product : (A B C D a b c N : ℕ) → 0 < c → A * c ≡ a * C → B * c ≡ b * D → N * c ≡ a * b → A * B * c ≡ N * (C * D)
cross_product A B C D a b c N some p q e =
    eq_of_mul-eq-mul_right c some (A * B * c) (N * (C * D))
    (omega (arith, ap (λ (n : ℕ). n * (B * c)) p, ap (λ (n : ℕ). a * C * n) q, ap (λ (n : ℕ). n * (C * D)) e))

pub multiplied : (f : Format) (x y : Float) (a b c N : ℕ) → 0 < c → HasValue x false a c → HasValue y false b c → N * c ≡ a * b → mul f x y ≡ round f false N c
unfolding mul
multiplied f nan y a b c N some h k e = absurd h
multiplied f (inf s) y a b c N some h k e = absurd h
multiplied f (fin s m i) nan a b c N some h k e = absurd k
multiplied f (fin s m i) (inf t) a b c N some h k e = absurd k
multiplied f (fin s m i) (fin t n j) a b c N some h k e =
    rw (h.0, k.0)
    (round_same f false (m * up i * (n * up j)) (down i * down j) N c (mul-pos (down_pos i) (down_pos j)) some
    (cross_product (m * up i) (n * up j) (down i) (down j) a b c N some h.1 k.1 e))

-- ---- the product of two codes
powers_multiply : (g h i j k l : ℕ) → k + l ≡ i + j → g * h * 2 ^ k * 2 ^ l ≡ g * 2 ^ i * (h * 2 ^ j)
powers_multiply g h i j k l e =
    let same : 2 ^ k * 2 ^ l ≡ 2 ^ i * 2 ^ j = sym (pow-add 2 k l) ∙ ap (λ (n : ℕ). 2 ^ n) e ∙ pow-add 2 i j in
    omega (arith, ap (λ (n : ℕ). g * h * n) same)

over_once : (n m k : ℕ) → n * 2 ^ k ≡ m → over_power (pos m) (k + k) ≈ over_power (pos n) k
over_once n m k e = (over_power_pos_≈ (k + k) k).1 (rw (pow-add 2 k k) (omega (arith, ap (λ (i : ℕ). i * 2 ^ k) e)))

module _ {es x y : ℕ} (few : es ≤ 2) (o : IsCode es x) (q : IsCode es y) where
  power_most : 2 ^ es ≤ 4
  power_most = pow_mono few

  -- the product in units of 2^-1075: thirty digits and a scale
  abbrev both : ℕ
  both = fifteen x * fifteen y

  abbrev scale : ℕ
  scale = scale_in 52 x + scale_in 52 y - 999

  both_less : both < 2 ^ 30
  both_less = omega (arith, mul-le-mul {n₁ = fifteen x} {m₁ = fifteen y} {n₂ = 2 ^ 15 - 1} {m₂ = 2 ^ 15 - 1} (omega arith) (omega arith))

  both_least : 2 ^ 28 ≤ both
  both_least = mul-le-mul {n₁ = 2 ^ 14} {m₁ = 2 ^ 14} {n₂ = fifteen x} {m₂ = fifteen y} (omega arith) (omega arith)

  scale_least : 1047 ≤ scale + 32 * 2 ^ es
  scale_least = omega (arith, o.at_least, q.at_least, power_most)

  scale_less : scale + 30 ≤ 1075 + 32 * 2 ^ es
  scale_less = omega (arith, o.less, q.less)

  abbrev number : ℕ
  number = both * 2 ^ scale

  number_is : number * 2 ^ 1075 ≡ units_of x * units_of y
  number_is =
      rw (units_by_fifteen x o.few, units_by_fifteen y q.few)
      (powers_multiply (fifteen x) (fifteen y) (38 + scale_in 52 x) (38 + scale_in 52 y) scale 1075 (omega (arith, scale_least, power_most)))

  number_least : (k : ℕ) → k ≤ 28 + scale → 2 ^ k ≤ number
  number_least k h = le_trans (pow_mono h) (rw (pow-add 2 28 scale) (mul-le-mul_right (2 ^ scale) both_least))

  number_less : (k : ℕ) → 30 + scale ≤ k → number < 2 ^ k
  number_less k h = lt_of_lt_of_le (shl_lt 30 scale both_less) (pow_mono h)

  product_value : HasValue (mul binary64 (of_bits binary64 x) (of_bits binary64 y)) false number (2 ^ 1075)
  product_value =
      rw (multiplied binary64 (of_bits binary64 x) (of_bits binary64 y) (units_of x) (units_of y) (2 ^ 1075) number (pow_pos 1075)
      (posit_value few o) (posit_value few q) number_is)
      (rounded false number both scale refl (omega (arith, scale_least, power_most)) (omega (arith, both_less)) (number_less 2099 (omega (arith, scale_less, power_most))))

  product_bits : Bits (mul binary64 (of_bits binary64 x) (of_bits binary64 y)) false number
  product_bits =
      value_bits (mul binary64 (of_bits binary64 x) (of_bits binary64 y)) false number both scale product_value refl (omega (arith, both_less))
      (number_least 53 (omega (arith, scale_least, power_most))) (number_less 2099 (omega (arith, scale_less, power_most)))

  pub product_number : T (not (is_nan (mul binary64 (of_bits binary64 x) (of_bits binary64 y))))
  product_number = no_nan (mul binary64 (of_bits binary64 x) (of_bits binary64 y)) false number (2 ^ 1075) product_value

  product_same : (code_value 52 x *ᶠ code_value 52 y) ≈ over_power (pos number) 1075
  product_same =
      over_power_*ᶠ 1075 1075 (pos (units_of x)) (pos (units_of y))
      ⨾ over_once number (units_of x * units_of y) 1075 number_is

  pub product_codes : Codes es (code_value 52 x *ᶠ code_value 52 y) (to_bits binary64 (mul binary64 (of_bits binary64 x) (of_bits binary64 y)))
  product_codes =
      rw (product_bits.bits ∙ zero-add product_bits.code)
      (bits_codes product_bits (number_least (1075 - 48 * 2 ^ es) (omega (arith, scale_least, pow_pos es))) (number_less (1075 + 32 * 2 ^ es) (omega (arith, scale_less))) product_same)
