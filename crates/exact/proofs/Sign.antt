-- The sign of a fraction is the sign of its numerator, since its denominator is above 0.
use mathlib.Core.Path.{◌≡◌}
use mathlib.Core.Logic.Iff
use mathlib.Core.Logic.{◌⊎◌, inl, inr, ◌↔◌}
use lib.IntN.{pos, zero-*ℤ}
use lib.Signed.{◌≤ℤ◌, ◌<ℤ◌}
use Rattle.exact.specs.Fraction.{Fraction, ◌≤ᶠ◌, ◌<ᶠ◌, ◌≈◌, whole, negᶠ}
use Rattle.exact.proofs.Common.{over, over_≤ᶠ, over_<ᶠ, over_≈}
use Rattle.exact.proofs.Order.{≈_refl, ≤ᶠ_respects, <ᶠ_respects, ≈_respects, ≈_sym, clashᶠ, ≤ᶠ_of_≈, trichotomy}
use Rattle.exact.proofs.Sum.{negᶠ_<ᶠ, negᶠ_≤ᶠ}

-- 0 over the same denominator
zero_over : (x : Fraction) → whole (pos 0) ≈ over (pos 0) x.above
zero_over x = record { cross = zero-*ℤ x.den }

pub ≥0 : {x : Fraction} → (whole (pos 0) ≤ᶠ x) ↔ (pos 0 ≤ℤ x.num)
≥0 {x} = Iff.trans (≤ᶠ_respects (zero_over x) (≈_refl x)) (over_≤ᶠ x.above)

pub >0 : {x : Fraction} → (whole (pos 0) <ᶠ x) ↔ (pos 0 <ℤ x.num)
>0 {x} = Iff.trans (<ᶠ_respects (zero_over x) (≈_refl x)) (over_<ᶠ x.above)

pub ≤0 : {x : Fraction} → (x ≤ᶠ whole (pos 0)) ↔ (x.num ≤ℤ pos 0)
≤0 {x} = Iff.trans (≤ᶠ_respects (≈_refl x) (zero_over x)) (over_≤ᶠ x.above)

pub <0 : {x : Fraction} → (x <ᶠ whole (pos 0)) ↔ (x.num <ℤ pos 0)
<0 {x} = Iff.trans (<ᶠ_respects (≈_refl x) (zero_over x)) (over_<ᶠ x.above)

pub ≈0 : {x : Fraction} → (x ≈ whole (pos 0)) ↔ (x.num ≡ pos 0)
≈0 {x} = Iff.trans (≈_respects (≈_refl x) (zero_over x)) (over_≈ x.above)

-- ---- the sign turned
pub negᶠ_>0 : {x : Fraction} → x <ᶠ whole (pos 0) → whole (pos 0) <ᶠ negᶠ x
negᶠ_>0 h = negᶠ_<ᶠ h

pub negᶠ_<0 : {x : Fraction} → whole (pos 0) <ᶠ x → negᶠ x <ᶠ whole (pos 0)
negᶠ_<0 h = negᶠ_<ᶠ h

pub negᶠ_≥0 : {x : Fraction} → x ≤ᶠ whole (pos 0) → whole (pos 0) ≤ᶠ negᶠ x
negᶠ_≥0 h = negᶠ_≤ᶠ h

-- ---- not 0
pub not_≈0_of_>0 : {x : Fraction} → whole (pos 0) <ᶠ x → ¬ (x ≈ whole (pos 0))
not_≈0_of_>0 h e = clashᶠ h (≤ᶠ_of_≈ e)

pub not_≈0_of_<0 : {x : Fraction} → x <ᶠ whole (pos 0) → ¬ (x ≈ whole (pos 0))
not_≈0_of_<0 h e = clashᶠ h (≤ᶠ_of_≈ (≈_sym e))

pub sign_of_not_≈0 : {x : Fraction} → ¬ (x ≈ whole (pos 0)) → (x <ᶠ whole (pos 0)) ⊎ (whole (pos 0) <ᶠ x)
sign_of_not_≈0 {x} n = elim (trichotomy x (whole (pos 0))) [ inl h ↦ inl h | inr s ↦ elim s [ inl e ↦ absurd (n e) | inr h ↦ inr h ] ]
