-- The product of two posits, by what they are: NaR with NaR, 0 with 0, and of two other numbers the rounded product of their values.
use Rattle.std.proofs.Common.{◌≡◌, ℕ, Bool, false, not, ◌≢◌, ℤ, refl, w32, to_z, of_z}
use mathlib.Core.Bool.{beq}
use Rattle.exact.specs.Fraction.{◌*ᶠ◌}
use Rattle.exact.proofs.Order.{≈_refl, ≈_trans}
use Rattle.exact.proofs.Product.{*ᶠ_cong, *ᶠ_zero, zero_*ᶠ}
use Rattle.posit.specs.declared.decoded.Decoded.TheVariants.{Finite}
use Rattle.posit.specs.declared.inner.magnitude.Magnitude.{Magnitude}
use Rattle.posit.specs.Format.{Format, nar}
use Rattle.posit.specs.Value.{value}
use Rattle.posit.specs.Rounding.{zero_gives_zero}
use Rattle.posit.specs.Decoding.{finite_value}
use Rattle.posit.specs.SmallForm.{Unpacks}
use Rattle.posit.specs.Magnitudes.{Knows, RoundsEach}
use Rattle.call.specs.Operation.{times}
use Rattle.posit.specs.Operation.{Operates}
use Rattle.posit.proofs.SmallScale.{kept}
use Rattle.posit.proofs.Operated.{a_number, both_numbers, zero_not_nar, zero_value}
use Rattle.posit.proofs.SignedResult.{product_signs, rounds_signed}

module _ (n es p q : ℕ) where
  pub zero_times : p ≡ 0 → q ≢ nar n → Operates n es times p q 0
  zero_times e h =
      a_number (both_numbers n times p q (zero_not_nar n e) h refl)
      (zero_gives_zero (≈_trans (*ᶠ_cong (zero_value n es e) (≈_refl (value n es q))) (zero_*ᶠ (value n es q))) refl)

  pub times_zero : p ≢ nar n → q ≡ 0 → Operates n es times p q 0
  times_zero h e =
      a_number (both_numbers n times p q h (zero_not_nar n e) refl)
      (zero_gives_zero (≈_trans (*ᶠ_cong (≈_refl (value n es p)) (zero_value n es e)) (*ᶠ_zero (value n es p))) refl)

-- two numbers, their scales as the machine holds them
pub numbers_times :
    {n es p q r : ℕ} {a b : Bool} {s t : ℤ} {g h : ℕ} (x : Magnitude) → Format n es → Unpacks n es p (Finite a s g) → Unpacks n es q (Finite b t h)
    → Knows (finite_value false (to_z w32 (of_z w32 s)) g *ᶠ finite_value false (to_z w32 (of_z w32 t)) h) x
    → RoundsEach n es (not (beq a b)) x r → Operates n es times p q r
numbers_times {n} {p = p} {q = q} x f u v k each =
    a_number (both_numbers n times p q u.decodes.finite.not_nar v.decodes.finite.not_nar refl)
    (rounds_signed product_signs x f u.decodes v.decodes (rw (kept u.small, kept v.small) at k) each)
