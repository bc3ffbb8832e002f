-- A fraction is a whole number over a whole number above 0. Fractions are compared by cross products and never reduced:
-- two fractions of the same size, as 1/2 and 2/4, are equal by `◌≈◌`.
use Rattle.std.specs.Prelude.{◌≡◌, ℕ, zero, suc, ◌^◌, ℤ, pos, negsuc, neg_ℤ, ◌+ℤ◌, ◌-ℤ◌, ◌*ℤ◌, ◌≤ℤ◌, ◌<ℤ◌, Bool}
use Rattle.std.specs.Int.Signed.{le_z, lt_z}
use Rattle.exact.specs.Whole.{above_zero, power_above, product_above}
use Rattle.std.proofs.Common.{zero-lt-suc}

pub record Fraction : Type 0 where
  pub num : ℤ
  pub den : ℤ
  pub above : pos 0 <ℤ den

-- ---- order, by cross products
infix 50 ◌≤ᶠ◌ ◌<ᶠ◌ ◌≈◌
pub record ◌≤ᶠ◌ (x y : Fraction) : Type 0 where
  pub cross : (x.num *ℤ y.den) ≤ℤ (y.num *ℤ x.den)

pub record ◌<ᶠ◌ (x y : Fraction) : Type 0 where
  pub cross : (x.num *ℤ y.den) <ℤ (y.num *ℤ x.den)

pub record ◌≈◌ (x y : Fraction) : Type 0 where
  pub cross : x.num *ℤ y.den ≡ y.num *ℤ x.den

-- the same order as a test that computes
abbrev pub leᶠ : Fraction → Fraction → Bool
leᶠ x y = le_z (x.num *ℤ y.den) (y.num *ℤ x.den)

abbrev pub ltᶠ : Fraction → Fraction → Bool
ltᶠ x y = lt_z (x.num *ℤ y.den) (y.num *ℤ x.den)

-- ---- fractions that are made
abbrev pub whole : ℤ → Fraction
whole a = record { num = a; den = pos 1; above = above_zero (zero-lt-suc 0) }

-- a / 2^k
abbrev pub over_power : ℤ → ℕ → Fraction
over_power a k = record { num = a; den = pos (2 ^ k); above = power_above k }

-- a · 2^s, for a scale s of either sign
abbrev pub scaled : ℤ → ℤ → Fraction
scaled a (pos s) = whole (a *ℤ pos (2 ^ s))
scaled a (negsuc s) = over_power a (suc s)

-- ---- the four operations and the sign
infixl 60 ◌+ᶠ◌ ◌-ᶠ◌
infixl 70 ◌*ᶠ◌ ◌/ᶠ◌
abbrev pub negᶠ : Fraction → Fraction
negᶠ x = record { num = neg_ℤ x.num; den = x.den; above = x.above }

abbrev pub ◌+ᶠ◌ : Fraction → Fraction → Fraction
x +ᶠ y = record { num = x.num *ℤ y.den +ℤ y.num *ℤ x.den; den = x.den *ℤ y.den; above = product_above x.above y.above }

abbrev pub ◌-ᶠ◌ : Fraction → Fraction → Fraction
x -ᶠ y = record { num = x.num *ℤ y.den -ℤ y.num *ℤ x.den; den = x.den *ℤ y.den; above = product_above x.above y.above }

abbrev pub ◌*ᶠ◌ : Fraction → Fraction → Fraction
x *ᶠ y = record { num = x.num *ℤ y.num; den = x.den *ℤ y.den; above = product_above x.above y.above }

-- x over a number a/b, that is x·b/a, by the sign of a; where a is 0 there is no quotient, and what stands there is not asked
abbrev over : Fraction → ℤ → ℤ → Fraction
over x (pos zero) b = whole (pos 0)
over x (pos (suc a)) b = record { num = x.num *ℤ b; den = x.den *ℤ pos (suc a); above = product_above x.above (above_zero (zero-lt-suc a)) }
over x (negsuc a) b = record { num = neg_ℤ (x.num *ℤ b); den = x.den *ℤ pos (suc a); above = product_above x.above (above_zero (zero-lt-suc a)) }

abbrev pub ◌/ᶠ◌ : Fraction → Fraction → Fraction
x /ᶠ y = over x y.num y.den
