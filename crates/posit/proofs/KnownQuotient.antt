-- The quotient of g · 2^e / 2^k by h · 2^d / 2^k lies where g · 2^j lies among the multiples of h: times h, a word's magnitude q · 2^e / 2^(d + j)
-- is q · h · 2^e / 2^(d + j), so the quotient of g · 2^j by h with its remainder says all that is asked.
use Rattle.std.proofs.Common.{◌≡◌, ℕ, ◌+◌, ◌*◌, ◌/◌, ◌%◌, ◌^◌, ◌<◌, ◌≤◌, not, eqb, pos, mul-le-mul_right, mod-lt, mul-lt-mul_of_pos_right, mul-pos, div-add-mod', arith, pow_pos, pow-add, eqb-true}
use borrow.Author.Tests.{not-true, not-false, eqb-false}
use Rattle.exact.specs.Whole.{above_zero}
use Rattle.exact.specs.Fraction.{Fraction, ◌≤ᶠ◌, ◌<ᶠ◌, ◌≈◌, whole, over_power, ◌*ᶠ◌, ◌/ᶠ◌}
use Rattle.exact.proofs.Order.{≈_sym, ≤ᶠ_antisymm, ≤ᶠ_respects, <ᶠ_respects, ≈_refl}
use Rattle.exact.proofs.Sign.{>0}
use Rattle.exact.proofs.Quotient.{/ᶠ_≤ᶠ, ≤ᶠ_/ᶠ, /ᶠ_<ᶠ, <ᶠ_/ᶠ, /ᶠ_cong}
use Rattle.exact.proofs.OverPower.{over_power_*ᶠ, over_power_pos_≤ᶠ, over_power_pos_<ᶠ}
use Rattle.posit.specs.Locating.{given}
use Rattle.posit.specs.declared.inner.finite.Finite.{Finite}
use Rattle.posit.specs.Magnitudes.{Within, meant_size}
use Rattle.posit.proofs.SmallScale.{lifted}
use Rattle.posit.proofs.Exactly.{within_respects, in_units}

-- ---- the two cross products, with the powers of two apart
module _ (g h e d j k : ℕ) where
  -- what both have in common
  common : ℕ
  common = 2 ^ e * 2 ^ d * 2 ^ k

  common_pos : 0 < common
  unfolding common
  common_pos = mul-pos (mul-pos (pow_pos e) (pow_pos d)) (pow_pos k)

  left_cross : (q : ℕ) → q * 2 ^ e * (h * 2 ^ d) * 2 ^ k ≡ q * h * common
  unfolding common
  left_cross q = omega arith

  right_cross : g * 2 ^ e * 2 ^ (d + j + k) ≡ g * 2 ^ j * common
  unfolding common
  right_cross = rw (pow-add 2 (d + j) k, pow-add 2 d j) (omega arith)

  abbrev x : Fraction
  x = over_power (pos (g * 2 ^ e)) k

  abbrev y : Fraction
  y = over_power (pos (h * 2 ^ d)) k

  module _ (some : 0 < h) (q : ℕ) where
    y_above : whole (pos 0) <ᶠ y
    y_above = >0.1 (above_zero (mul-pos some (pow_pos d)))

    -- the magnitude times the divisor
    product : (given q e (d + j) *ᶠ y) ≈ over_power (pos (q * 2 ^ e * (h * 2 ^ d))) (d + j + k)
    product = over_power_*ᶠ (d + j) k (pos (q * 2 ^ e)) (pos (h * 2 ^ d))

    at_most_quotient : q * h ≤ g * 2 ^ j → given q e (d + j) ≤ᶠ (x /ᶠ y)
    at_most_quotient l =
        (≤ᶠ_/ᶠ y_above).1
        ((≤ᶠ_respects product (≈_refl x)).1
        ((over_power_pos_≤ᶠ (d + j + k) k).1 (rw (left_cross q, right_cross) (mul-le-mul_right common l))))

    at_least_quotient : g * 2 ^ j ≤ q * h → (x /ᶠ y) ≤ᶠ given q e (d + j)
    at_least_quotient l =
        (/ᶠ_≤ᶠ y_above).1
        ((≤ᶠ_respects (≈_refl x) product).1
        ((over_power_pos_≤ᶠ k (d + j + k)).1 (rw (left_cross q, right_cross) (mul-le-mul_right common l))))

    below_quotient : q * h < g * 2 ^ j → given q e (d + j) <ᶠ (x /ᶠ y)
    below_quotient l =
        (<ᶠ_/ᶠ y_above).1
        ((<ᶠ_respects product (≈_refl x)).1
        ((over_power_pos_<ᶠ (d + j + k) k).1 (rw (left_cross q, right_cross) (mul-lt-mul_of_pos_right l common_pos))))

    above_quotient : g * 2 ^ j < q * h → (x /ᶠ y) <ᶠ given q e (d + j)
    above_quotient l =
        (/ᶠ_<ᶠ y_above).1
        ((<ᶠ_respects (≈_refl x) product).1
        ((over_power_pos_<ᶠ k (d + j + k)).1 (rw (left_cross q, right_cross) (mul-lt-mul_of_pos_right l common_pos))))

  -- ---- by the quotient and remainder of whole numbers
  module _ (some : 0 < h) where
    quotient : ℕ
    quotient = g * 2 ^ j / h

    rest : ℕ
    rest = g * 2 ^ j % h

    split : quotient * h + rest ≡ g * 2 ^ j
    unfolding quotient rest
    split = div-add-mod' (g * 2 ^ j) h

    rest_less : rest < h
    unfolding rest
    rest_less = mod-lt (g * 2 ^ j) some

    within_parts : Within (x /ᶠ y) quotient e (d + j) (not (eqb rest 0))
    within_parts =
        record {
          at_least = at_most_quotient some quotient (omega (arith, split));
          less = above_quotient some (quotient + 1) (omega (arith, split, rest_less));
          whole_of_it = λ n. exactly (eqb-true rest 0 (not-false (eqb rest 0) n));
          more_than_it = λ n. below_quotient some quotient (less (eqb-false rest 0 (not-true (eqb rest 0) n)));
        }
      where
        exactly : rest ≡ 0 → (x /ᶠ y) ≈ given quotient e (d + j)
        exactly z = ≤ᶠ_antisymm (at_least_quotient some quotient (omega (arith, split))) (at_most_quotient some quotient (omega (arith, split)))

        less : (rest ≡ 0 → ⊥) → quotient * h < g * 2 ^ j
        less n = omega (arith, split)

    pub quotient_within : Within (x /ᶠ y) (g * 2 ^ j / h) e (d + j) (not (eqb (g * 2 ^ j % h) 0))
    unfolding quotient rest
    quotient_within = within_parts

-- ---- the quotient of two numbers' sizes
module _ (x y : Finite) where
  pub quotient_known :
      Within (meant_size x /ᶠ meant_size y) (x.fraction * 2 ^ 47 / y.fraction) (lifted x.scale) (lifted y.scale + 47) (not (eqb (x.fraction * 2 ^ 47 % y.fraction) 0))
  quotient_known =
      within_respects (≈_sym (/ᶠ_cong (in_units x.small) (in_units y.small)))
      (quotient_within x.fraction y.fraction (lifted x.scale) (lifted y.scale) 47 56 y.small.some)
