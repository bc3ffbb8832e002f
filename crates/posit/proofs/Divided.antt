-- The quotient of two posits, by what they are: NaR with NaR or over 0, 0 over a number, and of two other numbers the rounded quotient of their values.
use Rattle.std.proofs.Common.{◌≡◌, ℕ, Bool, false, not, ◌≢◌, ℤ, pos, refl, w32, to_z, of_z, ne_eqb}
use mathlib.Core.Bool.{beq}
use Rattle.exact.specs.Fraction.{Fraction, ◌≈◌, whole, ◌/ᶠ◌}
use Rattle.exact.proofs.Order.{≈_refl, ≈_trans, ≈_sym, ≈_decided}
use Rattle.exact.proofs.Product.{zero_*ᶠ}
use Rattle.exact.proofs.Quotient.{/ᶠ_cong, /ᶠ_zero, /ᶠ_unique}
use Rattle.posit.specs.declared.decoded.Decoded.TheVariants.{Finite}
use Rattle.posit.specs.declared.inner.magnitude.Magnitude.{Magnitude}
use Rattle.posit.specs.Format.{Format, nar}
use Rattle.posit.specs.Value.{value}
use Rattle.posit.specs.Rounding.{zero_gives_zero}
use Rattle.posit.specs.Decoding.{finite_value}
use Rattle.posit.specs.SmallForm.{Unpacks}
use Rattle.posit.specs.Magnitudes.{Knows, RoundsEach}
use Rattle.call.specs.Operation.{over}
use Rattle.posit.specs.Operation.{Operates}
use Rattle.posit.proofs.SmallScale.{kept}
use Rattle.posit.proofs.Operated.{a_number, both_numbers, zero_not_nar, zero_value}
use Rattle.posit.proofs.SignedResult.{quotient_signs, rounds_signed}

zero_/ᶠ : (y : Fraction) → (whole (pos 0) /ᶠ y) ≈ whole (pos 0)
zero_/ᶠ y = by (≈_decided y (whole (pos 0)))
  where
    by : Dec (y ≈ whole (pos 0)) → (whole (pos 0) /ᶠ y) ≈ whole (pos 0)
    by (yes e) = /ᶠ_zero (whole (pos 0)) e
    by (no h) = ≈_sym (/ᶠ_unique h (zero_*ᶠ y))

module _ (n es p q : ℕ) where
  pub zero_over : p ≡ 0 → q ≢ nar n → q ≢ 0 → Operates n es over p q 0
  zero_over e h k =
      a_number (both_numbers n over p q (zero_not_nar n e) h (ne_eqb q 0 k))
      (zero_gives_zero (≈_trans (/ᶠ_cong (zero_value n es e) (≈_refl (value n es q))) (zero_/ᶠ (value n es q))) refl)

-- two numbers, their scales as the machine holds them
pub numbers_over :
    {n es p q r : ℕ} {a b : Bool} {s t : ℤ} {g h : ℕ} (x : Magnitude) → Format n es → Unpacks n es p (Finite a s g) → Unpacks n es q (Finite b t h)
    → Knows (finite_value false (to_z w32 (of_z w32 s)) g /ᶠ finite_value false (to_z w32 (of_z w32 t)) h) x
    → RoundsEach n es (not (beq a b)) x r → Operates n es over p q r
numbers_over {n} {p = p} {q = q} x f u v k each =
    a_number (both_numbers n over p q u.decodes.finite.not_nar v.decodes.finite.not_nar (ne_eqb q 0 v.decodes.not_zero))
    (rounds_signed quotient_signs x f u.decodes v.decodes (rw (kept u.small, kept v.small) at k) each)
