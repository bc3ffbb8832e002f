-- The quotient of fractions: for y other than 0, x / y is the one fraction whose product with y is x. Only that law looks at the
-- signs; signs, order and congruence follow from it by cancelling y.
use mathlib.Core.Path.{◌≡◌, refl, sym, ap, ◌∙◌}
use mathlib.Core.Logic.{◌↔◌}
use mathlib.Core.List.{[], ◌∷◌}
use Prim.Native.Nat.{zero, suc}
use lib.IntN.{ℤ, pos, negsuc, neg_ℤ, pos-ne-negsuc}
use native.Mathlib.Nat.{suc-ne-zero}
use lib.Signed.{◌<ℤ◌}
use Rattle.exact.specs.Fraction.{Fraction, ◌≤ᶠ◌, ◌<ᶠ◌, ◌≈◌, whole, negᶠ, ◌*ᶠ◌, ◌/ᶠ◌}
use Rattle.exact.proofs.Ring.{atoms, var, quote, quote_minus, solved}
use Rattle.exact.proofs.Common.{over}
use Rattle.exact.proofs.Order.{≤ᶠ_of_<ᶠ, ≈_refl, ≈_sym, ≈_trans, ≤ᶠ_≈, ≈_≤ᶠ, <ᶠ_≈, ≈_<ᶠ, clashᶠ, <ᶠ_of_not_≤ᶠ, ≈_decided, <ᶠ_≤ᶠ_trans, <ᶠ_trans}
use Rattle.exact.proofs.Sum.{negᶠ_cong, negᶠ_negᶠ, <ᶠ_negᶠ}
use Rattle.exact.proofs.Sign.{≈0, negᶠ_>0, not_≈0_of_>0}
use Rattle.exact.proofs.Product.{*ᶠ_comm, zero_*ᶠ, *ᶠ_cong, *ᶠ_mono, *ᶠ_mono_<, *ᶠ_monoʳ, *ᶠ_cancel, *ᶠ_cancel_≈, negᶠ_*ᶠ, negᶠ_*ᶠ_negᶠ}

-- ---- what the quotient is
back : (x : Fraction) (n d : ℤ) (a : pos 0 <ℤ d) → ¬ (n ≡ pos 0) → (x /ᶠ over n a *ᶠ over n a) ≈ x
back x (pos zero) d a h = absurd (h refl)
back x (pos (suc m)) d a h = record {
  cross = atoms (x.num ∷ x.den ∷ d ∷ pos (suc m) ∷ []) λ σ p.
      simp (quote, p 0, p 1, p 2, p 3) (solved _ _ _ tt);
}
back x (negsuc m) d a h = record {
  cross = atoms (x.num ∷ x.den ∷ d ∷ pos (suc m) ∷ []) λ σ p.
      simp (quote, p 0, p 1, p 2, p 3, ap neg_ℤ (p 3) ∙ quote_minus σ (var 3)) (solved _ _ _ tt);
}

pub /ᶠ_*ᶠ : (x : Fraction) {y : Fraction} → ¬ (y ≈ whole (pos 0)) → (x /ᶠ y *ᶠ y) ≈ x
/ᶠ_*ᶠ x {y} n = back x y.num y.den y.above (λ e. n (≈0.1 e))

nothing : (x : Fraction) (n d : ℤ) (a : pos 0 <ℤ d) → n ≡ pos 0 → (x /ᶠ over n a) ≈ whole (pos 0)
nothing x (pos zero) d a e = ≈_refl (whole (pos 0))
nothing x (pos (suc m)) d a e = let f : suc m ≡ zero = cc in absurd (suc-ne-zero m f)
nothing x (negsuc m) d a e = absurd (pos-ne-negsuc 0 m (sym e))

-- beside 0 what stands for a quotient is 0
pub /ᶠ_zero : (x : Fraction) {y : Fraction} → y ≈ whole (pos 0) → (x /ᶠ y) ≈ whole (pos 0)
/ᶠ_zero x {y} e = nothing x y.num y.den y.above (≈0.0 e)

pub *ᶠ_/ᶠ : (x : Fraction) {y : Fraction} → ¬ (y ≈ whole (pos 0)) → (y *ᶠ (x /ᶠ y)) ≈ x
*ᶠ_/ᶠ x {y} n = ≈_trans (*ᶠ_comm y (x /ᶠ y)) (/ᶠ_*ᶠ x n)

pub /ᶠ_unique : {x y z : Fraction} → ¬ (y ≈ whole (pos 0)) → (z *ᶠ y) ≈ x → z ≈ (x /ᶠ y)
/ᶠ_unique {x} {y} {z} n e = *ᶠ_cancel_≈ n (≈_trans (*ᶠ_comm y z) (≈_trans e (≈_sym (*ᶠ_/ᶠ x n))))

pub *ᶠ_/ᶠ_cancel : (x : Fraction) {y : Fraction} → ¬ (y ≈ whole (pos 0)) → (x *ᶠ y /ᶠ y) ≈ x
*ᶠ_/ᶠ_cancel x {y} n = ≈_sym (/ᶠ_unique n (≈_refl (x *ᶠ y)))

pub /ᶠ_cong : {x y u v : Fraction} → x ≈ y → u ≈ v → (x /ᶠ u) ≈ (y /ᶠ v)
/ᶠ_cong {x} {y} {u} {v} h k = elim (≈_decided u (whole (pos 0))) [
  | yes z ↦ ≈_trans (/ᶠ_zero x z) (≈_sym (/ᶠ_zero y (≈_trans (≈_sym k) z)))
  | no n ↦ /ᶠ_unique (λ z. n (≈_trans k z)) (≈_trans (*ᶠ_cong (≈_refl (x /ᶠ u)) (≈_sym k)) (≈_trans (/ᶠ_*ᶠ x n) h))
]

-- ---- the sign goes out
negᶠ_zero : {x : Fraction} → x ≈ whole (pos 0) → negᶠ x ≈ whole (pos 0)
negᶠ_zero e = negᶠ_cong e

pub negᶠ_/ᶠ : (x y : Fraction) → (negᶠ x /ᶠ y) ≈ negᶠ (x /ᶠ y)
negᶠ_/ᶠ x y = elim (≈_decided y (whole (pos 0))) [
  | yes z ↦ ≈_trans (/ᶠ_zero (negᶠ x) z) (≈_sym (negᶠ_zero (/ᶠ_zero x z)))
  | no n ↦ ≈_sym (/ᶠ_unique n (≈_trans (negᶠ_*ᶠ (x /ᶠ y) y) (negᶠ_cong (/ᶠ_*ᶠ x n))))
]

pub /ᶠ_negᶠ : (x y : Fraction) → (x /ᶠ negᶠ y) ≈ negᶠ (x /ᶠ y)
/ᶠ_negᶠ x y = elim (≈_decided y (whole (pos 0))) [
  | yes z ↦ ≈_trans (/ᶠ_zero x (negᶠ_zero z)) (≈_sym (negᶠ_zero (/ᶠ_zero x z)))
  | no n ↦ ≈_sym (/ᶠ_unique (λ z. n (≈_trans (≈_sym (negᶠ_negᶠ y)) (negᶠ_zero z))) (≈_trans (negᶠ_*ᶠ_negᶠ (x /ᶠ y) y) (/ᶠ_*ᶠ x n)))
]

-- ---- by a divisor above 0: the divisor goes to the other side
module _ {y : Fraction} (s : whole (pos 0) <ᶠ y) where
  undo : (x : Fraction) → (x /ᶠ y *ᶠ y) ≈ x
  undo x = /ᶠ_*ᶠ x (not_≈0_of_>0 s)

  cancel : {x z : Fraction} → (x *ᶠ y) ≤ᶠ (z *ᶠ y) → x ≤ᶠ z
  cancel {x} {z} h = *ᶠ_cancel s (≈_≤ᶠ (*ᶠ_comm y x) (≤ᶠ_≈ h (*ᶠ_comm z y)))

  pub /ᶠ_≤ᶠ : {x z : Fraction} → ((x /ᶠ y) ≤ᶠ z) ↔ (x ≤ᶠ (z *ᶠ y))
  /ᶠ_≤ᶠ {x} {z} = (λ h. ≈_≤ᶠ (≈_sym (undo x)) (*ᶠ_monoʳ (≤ᶠ_of_<ᶠ s) h), λ h. cancel (≈_≤ᶠ (undo x) h))

  pub ≤ᶠ_/ᶠ : {x z : Fraction} → (z ≤ᶠ (x /ᶠ y)) ↔ ((z *ᶠ y) ≤ᶠ x)
  ≤ᶠ_/ᶠ {x} {z} = (λ h. ≤ᶠ_≈ (*ᶠ_monoʳ (≤ᶠ_of_<ᶠ s) h) (undo x), λ h. cancel (≤ᶠ_≈ h (≈_sym (undo x))))

  pub /ᶠ_<ᶠ : {x z : Fraction} → ((x /ᶠ y) <ᶠ z) ↔ (x <ᶠ (z *ᶠ y))
  /ᶠ_<ᶠ = (λ h. <ᶠ_of_not_≤ᶠ (λ k. clashᶠ h (≤ᶠ_/ᶠ.1 k)), λ h. <ᶠ_of_not_≤ᶠ (λ k. clashᶠ h (≤ᶠ_/ᶠ.0 k)))

  pub <ᶠ_/ᶠ : {x z : Fraction} → (z <ᶠ (x /ᶠ y)) ↔ ((z *ᶠ y) <ᶠ x)
  <ᶠ_/ᶠ = (λ h. <ᶠ_of_not_≤ᶠ (λ k. clashᶠ h (/ᶠ_≤ᶠ.1 k)), λ h. <ᶠ_of_not_≤ᶠ (λ k. clashᶠ h (/ᶠ_≤ᶠ.0 k)))

  pub /ᶠ_mono : {x z : Fraction} → x ≤ᶠ z → (x /ᶠ y) ≤ᶠ (z /ᶠ y)
  /ᶠ_mono {x} {z} h = /ᶠ_≤ᶠ.1 (≤ᶠ_≈ h (≈_sym (undo z)))

  pub /ᶠ_mono_< : {x z : Fraction} → x <ᶠ z → (x /ᶠ y) <ᶠ (z /ᶠ y)
  /ᶠ_mono_< {x} {z} h = /ᶠ_<ᶠ.1 (<ᶠ_≈ h (≈_sym (undo z)))

  pub quotient_≥0 : {x : Fraction} → whole (pos 0) ≤ᶠ x → whole (pos 0) ≤ᶠ (x /ᶠ y)
  quotient_≥0 h = ≤ᶠ_/ᶠ.1 (≈_≤ᶠ (zero_*ᶠ y) h)

  pub quotient_above_above : {x : Fraction} → whole (pos 0) <ᶠ x → whole (pos 0) <ᶠ (x /ᶠ y)
  quotient_above_above h = <ᶠ_/ᶠ.1 (≈_<ᶠ (zero_*ᶠ y) h)

  pub quotient_below_above : {x : Fraction} → x <ᶠ whole (pos 0) → (x /ᶠ y) <ᶠ whole (pos 0)
  quotient_below_above h = /ᶠ_<ᶠ.1 (<ᶠ_≈ h (≈_sym (zero_*ᶠ y)))

-- ---- a greater divisor
pub /ᶠ_anti : {x y z : Fraction} → whole (pos 0) ≤ᶠ x → whole (pos 0) <ᶠ y → y ≤ᶠ z → (x /ᶠ z) ≤ᶠ (x /ᶠ y)
/ᶠ_anti {x} {y} {z} r s h =
    let t : whole (pos 0) <ᶠ z = <ᶠ_≤ᶠ_trans s h in
    (≤ᶠ_/ᶠ s).1 (≤ᶠ_≈ (*ᶠ_mono (quotient_≥0 t r) h) (/ᶠ_*ᶠ x (not_≈0_of_>0 t)))

pub /ᶠ_anti_< : {x y z : Fraction} → whole (pos 0) <ᶠ x → whole (pos 0) <ᶠ y → y <ᶠ z → (x /ᶠ z) <ᶠ (x /ᶠ y)
/ᶠ_anti_< {x} {y} {z} r s h =
    let t : whole (pos 0) <ᶠ z = <ᶠ_trans s h in
    (<ᶠ_/ᶠ s).1 (<ᶠ_≈ (*ᶠ_mono_< (quotient_above_above t r) h) (/ᶠ_*ᶠ x (not_≈0_of_>0 t)))

-- ---- by a divisor below 0
pub quotient_above_below : {x y : Fraction} → whole (pos 0) <ᶠ x → y <ᶠ whole (pos 0) → (x /ᶠ y) <ᶠ whole (pos 0)
quotient_above_below {x} {y} h k = <ᶠ_negᶠ (<ᶠ_≈ (quotient_above_above (negᶠ_>0 k) h) (/ᶠ_negᶠ x y))

pub quotient_below_below : {x y : Fraction} → x <ᶠ whole (pos 0) → y <ᶠ whole (pos 0) → whole (pos 0) <ᶠ (x /ᶠ y)
quotient_below_below {x} {y} h k = <ᶠ_negᶠ (≈_<ᶠ (≈_sym (/ᶠ_negᶠ x y)) (quotient_below_above (negᶠ_>0 k) h))
