-- A float given and a float made: a float that differs from itself is a NaN, every other is read from its own bits; and a posit's decoded form is the
-- float that means its value, +0.0 for zero.
use Rattle.std.proofs.Common.{◌≡◌, ℕ, Bool, true, T, ℤ, pos, sym, refl, ap, ◌∙◌, subst, arith, pow_pos, w32, to_z, of_z}
use lib.Ieee.{Float, nan, inf, fin, binary64, odd, fits, is_nan, of_fields, of_bits, to_bits}
use lib.Ieee.Bits.{of_bits-to_bits}
use Rattle.exact.proofs.Order.{≈_sym, ≈_trans}
use Rattle.exact.proofs.Scaled.{scaled_zero}
use Rattle.posit.specs.Format.{nar}
use Rattle.posit.specs.declared.decoded.Decoded.TheVariants.{Finite}
use Rattle.posit.specs.SmallForm.{Unpacks}
use Rattle.posit.specs.Floats.{plus_zero, FromFloat, ExactFloat}
use Rattle.posit.proofs.SmallScale.{kept}
use Rattle.posit.proofs.Operated.{zero_value, zero_not_nar}

-- ---- a float given
pub nan_rounded : (n es : ℕ) (x : Float) {p : ℕ} → is_nan x ≡ true → p ≡ nar n → FromFloat n es x p
unfolding is_nan
nan_rounded n es nan h e = e
nan_rounded n es (inf s) h e = absurd (subst T (sym h) tt)
nan_rounded n es (fin s m e') h e = absurd (subst T (sym h) tt)

pub own_bits : (n es : ℕ) (x : Float) (p : ℕ) → T (fits binary64 x) → FromFloat n es (of_bits binary64 (to_bits binary64 x)) p → FromFloat n es x p
own_bits n es x p h r = subst (λ (y : Float). FromFloat n es y p) (of_bits-to_bits binary64 x h) r

-- ---- a float made
pub zero_bits : of_bits binary64 0 ≡ plus_zero
unfolding of_bits of_fields odd
zero_bits = refl

pub zero_float : (n es : ℕ) {p : ℕ} → p ≡ 0 → ExactFloat n es p (of_bits binary64 0)
zero_float n es {p} e =
    rw zero_bits
    (record {
      finite = record { fits = omega (arith, pow_pos n); not_nar = zero_not_nar n e };
      exactly = ≈_trans (scaled_zero (pos 0)) (≈_sym (zero_value n es e));
      zero_is_plus = λ z. refl;
    })

-- a number, its scale as the machine holds it
pub odd_float : {n es p : ℕ} {negative : Bool} {s : ℤ} {g : ℕ} {x : Float} → Unpacks n es p (Finite negative s g)
    → x ≡ fin negative g (to_z w32 (of_z w32 s)) → ExactFloat n es p x
odd_float {negative = negative} {g = g} u e =
    rw (e ∙ ap (fin negative g) (kept u.small))
    (record { finite = u.decodes.finite; exactly = u.decodes.means; zero_is_plus = λ z. absurd (u.decodes.not_zero z) })
