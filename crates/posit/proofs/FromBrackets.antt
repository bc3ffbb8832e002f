-- A pattern that brackets g · 2^s / 2^a with the next one locates it: values are multiples over one power of two, so that fractions compare
-- by the cross products that the brackets give, and every x between is compared through the two ends.
use Rattle.std.proofs.Common.{◌≡◌, ℕ, ◌+◌, ◌-◌, ◌*◌, ◌^◌, ◌<◌, ◌≤◌, Bool, true, false, pos, sym, refl, ap, ◌∙◌, ap₂, mul_assoc, add-one, arith, pow-add}
use Rattle.exact.specs.Fraction.{◌≤ᶠ◌, ◌<ᶠ◌, ◌≈◌, over_power}
use Rattle.exact.proofs.WholeOrder.{pos_≤ℤ, pos_<ℤ}
use Rattle.exact.proofs.Order.{≤ᶠ_of_<ᶠ, ≤ᶠ_of_≈, ≈_sym, ≤ᶠ_trans, <ᶠ_≤ᶠ_trans}
use Rattle.posit.specs.Value.{multiple, value}
use Rattle.posit.specs.Locating.{Locates, given}
use Rattle.posit.proofs.Mirror.{units_below, nar_wider}
use Rattle.posit.proofs.Bracketed.{Brackets, lowest}

-- ---- cross products of natural numbers over powers of two
pub over_le : (A i B j : ℕ) → A * 2 ^ j ≤ B * 2 ^ i → over_power (pos A) i ≤ᶠ over_power (pos B) j
over_le A i B j h = record { cross = pos_≤ℤ.1 h }

pub over_lt : (A i B j : ℕ) → A * 2 ^ j < B * 2 ^ i → over_power (pos A) i <ᶠ over_power (pos B) j
over_lt A i B j h = record { cross = pos_<ℤ.1 h }

pub over_same : (A i B j : ℕ) → A * 2 ^ j ≡ B * 2 ^ i → over_power (pos A) i ≈ over_power (pos B) j
over_same A i B j h = record { cross = ap pos h }

-- ---- a pattern one bit longer than the format's, with a clear top bit
pub value_wide : (n es L : ℕ) → 0 < n → L < 2 ^ n → value (n + 1) es L ≡ over_power (pos (multiple n es L)) (lowest n es)
value_wide n es L k h =
    ap₂ over_power
    (units_below (n + 1) es (rw (nar_wider n) h) ∙ ap (λ (b : ℕ). pos (multiple b es L)) {x = n + 1 - 1} {y = n} (omega arith))
    (ap (λ (b : ℕ). b * 2 ^ es) {x = n + 1 - 2} {y = n - 1} (omega arith))

module _ (n es g s a L : ℕ) (some : 0 < n) {exact : Bool} (b : Brackets n es g s a L exact) where
  scale_out : (k : ℕ) → k * 2 ^ s * 2 ^ lowest n es ≡ k * 2 ^ (s + lowest n es)
  scale_out k = rw (pow-add 2 s (lowest n es)) (mul_assoc k (2 ^ s) (2 ^ lowest n es))

  hit_here : exact ≡ true → given g s a ≈ value (n + 1) es L
  hit_here e = rw (value_wide n es L some b.fits) (over_same (g * 2 ^ s) a (multiple n es L) (lowest n es) (scale_out g ∙ sym (b.hit e)))

  miss_here : exact ≡ false → value (n + 1) es L <ᶠ given g s a
  miss_here e = rw (value_wide n es L some b.fits) (over_lt (multiple n es L) (lowest n es) (g * 2 ^ s) a (rw (scale_out g) (b.miss e)))

  at_most_here : value (n + 1) es L ≤ᶠ given g s a
  at_most_here = by exact refl
    where
      by : (c : Bool) → exact ≡ c → value (n + 1) es L ≤ᶠ given g s a
      by true e = ≤ᶠ_of_≈ (≈_sym (hit_here e))
      by false e = ≤ᶠ_of_<ᶠ (miss_here e)

  next_here : L + 1 < 2 ^ n → given (g + 1) s a ≤ᶠ value (n + 1) es (L + 1)
  next_here h =
      rw (value_wide n es (L + 1) some h)
      (over_le ((g + 1) * 2 ^ s) a (multiple n es (L + 1)) (lowest n es) (rw (scale_out (g + 1), add-one g, add-one L) (b.next (omega arith))))

  pub locates : Locates n es g s a L exact
  locates =
      record {
        floor =
            λ x from to.
            record {
              fits = rw (nar_wider n) b.fits;
              at_most = ≤ᶠ_trans at_most_here from;
              next_above = λ h. <ᶠ_≤ᶠ_trans to (next_here (rw (nar_wider n) at h));
            };
        hit = hit_here;
        miss = miss_here;
      }
