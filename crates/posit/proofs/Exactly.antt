-- A magnitude that a word knows: it is known exactly where it equals the lower end, since the next number of the word is larger; and to know a
-- magnitude is to know every fraction equal to it.
use Rattle.std.proofs.Common.{◌≡◌, ℕ, ◌+◌, ◌*◌, ◌^◌, Bool, true, false, T, ℤ, pos, sym, subst, mul-lt-mul_of_pos_right, arith, pow_pos}
use Rattle.exact.specs.Fraction.{Fraction, ◌<ᶠ◌, ◌≈◌, over_power, scaled}
use Rattle.exact.proofs.Order.{≤ᶠ_of_≈, ≈_sym, ≈_trans, ≈_<ᶠ, <ᶠ_≈, ≤ᶠ_≈}
use Rattle.exact.proofs.OverPower.{over_power_<ᶠ}
use Rattle.exact.proofs.WholeOrder.{pos_<ℤ}
use Rattle.exact.proofs.Scaled.{scaled_over}
use Rattle.posit.specs.Locating.{given}
use Rattle.posit.specs.SmallForm.{unit_bits, SmallForm}
use Rattle.posit.specs.Magnitudes.{Within}
use Rattle.posit.proofs.SmallScale.{lifted, lifted_is}

pub next_given : (g s a : ℕ) → given g s a <ᶠ given (g + 1) s a
next_given g s a = (over_power_<ᶠ a).1 (pos_<ℤ.1 (mul-lt-mul_of_pos_right {m = g} {n = g + 1} {k = 2 ^ s} (omega arith) (pow_pos s)))

pub never {ℓ} : {X : Type ℓ} → false ≡ true → X
never e = absurd (subst T (sym e) tt)

pub known_exactly : (g s a : ℕ) {z : Fraction} → z ≈ given g s a → Within z g s a false
known_exactly g s a e =
    record { at_least = ≤ᶠ_of_≈ (≈_sym e); less = ≈_<ᶠ e (next_given g s a); whole_of_it = λ h. e; more_than_it = λ h. never h }

pub within_respects : {y z : Fraction} {g s a : ℕ} {lost : Bool} → y ≈ z → Within y g s a lost → Within z g s a lost
within_respects e k =
    record {
      at_least = ≤ᶠ_≈ k.at_least e;
      less = ≈_<ᶠ (≈_sym e) k.less;
      whole_of_it = λ h. ≈_trans (≈_sym e) (k.whole_of_it h);
      more_than_it = λ h. <ᶠ_≈ (k.more_than_it h) e;
    }

-- a small form in units of 2^-56
pub in_units : {s : ℤ} {g : ℕ} → SmallForm s g → scaled (pos g) s ≈ over_power (pos (g * 2 ^ lifted s)) unit_bits
in_units {s} {g} x = scaled_over (pos g) s unit_bits (lifted s) (lifted_is x)
