-- A code that is the number itself tells it: cut to 24 digits it has the same scale, and the 28 digits cut off make up the rest.
use Rattle.std.proofs.Common.{◌≡◌, ℕ, ◌+◌, ◌-◌, ◌*◌, ◌^◌, ◌<◌, ◌≤◌, Bool, pos, lt_of_le_of_lt, mul-le-mul_right, mul-lt-mul_of_pos_right, arith, pow_pos, pow-add, shl_lt}
use lib.Ieee.{Float}
use Rattle.exact.specs.Fraction.{Fraction, ◌≈◌, ◌≤ᶠ◌, ◌<ᶠ◌, over_power}
use Rattle.exact.proofs.Order.{≈_sym, ≈_≤ᶠ, ≤ᶠ_≈, ≈_<ᶠ, <ᶠ_≈}
use Rattle.exact.proofs.OverPower.{over_power_pos_≈, over_power_≤ᶠ, over_power_<ᶠ}
use Rattle.exact.proofs.WholeOrder.{pos_≤ℤ, pos_<ℤ}
use Rattle.exact.proofs.Powers.{pow_lt_cancel}
use Rattle.posit.specs.Locating.{given}
use Rattle.code.specs.Code.{scale_in, digits_in, code_value}
use Rattle.code.specs.Coded.{Fits, Codes, first}
use Rattle.code.proofs.CodeBits.{units_of, Bits}

pub given_≤ : (g f s a : ℕ) → g ≤ f → given g s a ≤ᶠ given f s a
given_≤ g f s a h = (over_power_≤ᶠ a).1 (pos_≤ℤ.1 (mul-le-mul_right (2 ^ s) h))

pub given_< : (g f s a : ℕ) → g < f → given g s a <ᶠ given f s a
given_< g f s a h = (over_power_<ᶠ a).1 (pos_<ℤ.1 (mul-lt-mul_of_pos_right h (pow_pos s)))

pub more_digits : (g s a k : ℕ) → given g s a ≈ given (g * 2 ^ k) s (a + k)
more_digits g s a k = (over_power_pos_≈ a (a + k)).1 (rw (pow-add 2 a k) (omega arith))

module _ (c : ℕ) where
  cut_scale : scale_in 24 (first c) ≡ scale_in 52 c
  cut_scale = omega arith

  -- numbers of 24 digits on the scale of the code, with 28 zeros
  on_scale : (g : ℕ) → given g (scale_in 24 (first c)) (24 + 1023) ≈ given (g * 2 ^ 28) (scale_in 52 c) (52 + 1023)
  on_scale g = rw cut_scale (more_digits g (scale_in 52 c) (24 + 1023) 28)

pub exact_codes : {es c : ℕ} {z : Fraction} → Fits es c → z ≈ code_value 52 c → Codes es z c
exact_codes {es} {c} fits same =
    let g = digits_in 24 (first c) in
    record {
      fits = fits;
      at_least = ≈_≤ᶠ (on_scale c g) (≤ᶠ_≈ (given_≤ (g * 2 ^ 28) (digits_in 52 c) (scale_in 52 c) (52 + 1023) (omega arith)) (≈_sym same));
      less = ≈_<ᶠ same (<ᶠ_≈ (given_< (digits_in 52 c) ((g + 1) * 2 ^ 28) (scale_in 52 c) (52 + 1023) (omega arith)) (≈_sym (on_scale c (g + 1))));
      whole_of_it = λ _. same;
      more_than_it = λ more. ≈_<ᶠ (on_scale c g) (<ᶠ_≈ (given_< (g * 2 ^ 28) (digits_in 52 c) (scale_in 52 c) (52 + 1023) (omega arith)) (≈_sym same));
    }

-- ---- the code of a double that is an exact result
-- where the number lies, so does the scale
scale_above : (c k : ℕ) → 2 ^ k ≤ units_of c → k < 53 + scale_in 52 c
scale_above c k h = pow_lt_cancel k (53 + scale_in 52 c) (lt_of_le_of_lt h (shl_lt 53 (scale_in 52 c) (omega arith)))

scale_below : (c k : ℕ) → units_of c < 2 ^ k → 52 + scale_in 52 c < k
scale_below c k h =
    let least : 2 ^ 52 ≤ digits_in 52 c = omega arith in
    pow_lt_cancel (52 + scale_in 52 c) k (rw (pow-add 2 52 (scale_in 52 c)) (lt_of_le_of_lt (mul-le-mul_right (2 ^ scale_in 52 c) least) h))

module _ {es : ℕ} {r : Float} {s : Bool} {N : ℕ} (b : Bits r s N) (large : 2 ^ (1075 - 48 * 2 ^ es) ≤ N) (small : N < 2 ^ (1075 + 32 * 2 ^ es)) where
  bits_fits : Fits es b.code
  bits_fits =
      record {
        at_least = omega (arith, scale_above b.code (1075 - 48 * 2 ^ es) (rw b.units large));
        less = omega (arith, scale_below b.code (1075 + 32 * 2 ^ es) (rw b.units small));
        few = b.few;
      }

  pub bits_codes : {z : Fraction} → z ≈ over_power (pos N) 1075 → Codes es z b.code
  bits_codes same = exact_codes bits_fits (rw b.units same)
