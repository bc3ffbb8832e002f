-- Sum, difference and sign of fractions: an ordered abelian group up to ≈. What is monotone is so by one certificate, the hypotheses
-- weighed by the other denominators; an equation is one of the ring solver's.
use mathlib.Core.Path.{refl}
use mathlib.Core.Logic.{◌↔◌}
use mathlib.Core.List.{[], ◌∷◌}
use lib.IntN.{pos, neg_ℤ, neg_ℤ-neg_ℤ, neg_ℤ-+ℤ, ◌*ℤ◌}
use lib.Signed.{◌≤ℤ◌}
use Rattle.exact.specs.Whole.{product_above}
use Rattle.exact.specs.Fraction.{Fraction, ◌≤ᶠ◌, ◌<ᶠ◌, ◌≈◌, whole, negᶠ, ◌+ᶠ◌, ◌-ᶠ◌}
use Rattle.exact.proofs.Whole.{neg_ℤ_*ℤ}
use Rattle.exact.proofs.WholeOrder.{neg_ℤ_≤ℤ}
use Rattle.exact.proofs.Ring.{solved, numeral}
use Rattle.exact.proofs.FractionRing.{fractions, quoteᶠ, terms}
use Rattle.exact.proofs.Certificate.{◌⊙◌, ◌⊙<◌, ◌⊕◌, ◌⊕<◌, certify, certify_<, one_above}
use Rattle.exact.proofs.Order.{≈_of_parts, ≤ᶠ_refl, ≤ᶠ_of_≈, ≤ᶠ_antisymm, ≈_sym, ≈_trans, ≤ᶠ_≈, ≈_≤ᶠ, <ᶠ_≈, ≈_<ᶠ, clashᶠ, <ᶠ_of_not_≤ᶠ, ≤ᶠ_of_not_<ᶠ}

-- ---- the sign
pub negᶠ_negᶠ : (x : Fraction) → negᶠ (negᶠ x) ≈ x
negᶠ_negᶠ x = ≈_of_parts (neg_ℤ-neg_ℤ x.num) refl

pub negᶠ_≤ᶠ : {x y : Fraction} → x ≤ᶠ y → negᶠ y ≤ᶠ negᶠ x
negᶠ_≤ᶠ {x} {y} h =
    let e : (neg_ℤ y.num *ℤ x.den) ≤ℤ (neg_ℤ x.num *ℤ y.den) = simp neg_ℤ_*ℤ (neg_ℤ_≤ℤ.1 h.cross) in
    record { cross = e }

pub ≤ᶠ_negᶠ : {x y : Fraction} → negᶠ y ≤ᶠ negᶠ x → x ≤ᶠ y
≤ᶠ_negᶠ {x} {y} h = ≈_≤ᶠ (≈_sym (negᶠ_negᶠ x)) (≤ᶠ_≈ (negᶠ_≤ᶠ h) (negᶠ_negᶠ y))

pub negᶠ_<ᶠ : {x y : Fraction} → x <ᶠ y → negᶠ y <ᶠ negᶠ x
negᶠ_<ᶠ h = <ᶠ_of_not_≤ᶠ (λ k. clashᶠ h (≤ᶠ_negᶠ k))

pub <ᶠ_negᶠ : {x y : Fraction} → negᶠ y <ᶠ negᶠ x → x <ᶠ y
<ᶠ_negᶠ h = <ᶠ_of_not_≤ᶠ (λ k. clashᶠ h (negᶠ_≤ᶠ k))

pub negᶠ_cong : {x y : Fraction} → x ≈ y → negᶠ x ≈ negᶠ y
negᶠ_cong h = ≤ᶠ_antisymm (negᶠ_≤ᶠ (≤ᶠ_of_≈ (≈_sym h))) (negᶠ_≤ᶠ (≤ᶠ_of_≈ h))

-- ---- the sum
pub +ᶠ_comm : (x y : Fraction) → (x +ᶠ y) ≈ (y +ᶠ x)
+ᶠ_comm x y = record { cross = fractions (x ∷ y ∷ []) λ φ p. simp (quoteᶠ, p 0, p 1) (solved _ _ _ tt) }

pub +ᶠ_assoc : (x y z : Fraction) → (x +ᶠ y +ᶠ z) ≈ (x +ᶠ (y +ᶠ z))
+ᶠ_assoc x y z = record { cross = fractions (x ∷ y ∷ z ∷ []) λ φ p. simp (quoteᶠ, p 0, p 1, p 2) (solved _ _ _ tt) }

pub +ᶠ_idr : (x : Fraction) → (x +ᶠ whole (pos 0)) ≈ x
+ᶠ_idr x = record { cross = fractions (x ∷ []) λ φ p. simp (quoteᶠ, p 0, numeral (terms φ)) (solved _ _ _ tt) }

pub +ᶠ_idl : (x : Fraction) → (whole (pos 0) +ᶠ x) ≈ x
+ᶠ_idl x = ≈_trans (+ᶠ_comm (whole (pos 0)) x) (+ᶠ_idr x)

pub +ᶠ_mono : {x y u v : Fraction} → x ≤ᶠ y → u ≤ᶠ v → (x +ᶠ u) ≤ᶠ (y +ᶠ v)
+ᶠ_mono {x} {y} {u} {v} h k = record {
  cross = certify one_above (product_above u.above v.above ⊙ h.cross ⊕ product_above x.above y.above ⊙ k.cross)
      (fractions (x ∷ y ∷ u ∷ v ∷ []) λ φ p. simp (quoteᶠ, p 0, p 1, p 2, p 3, numeral (terms φ)) (solved _ _ _ tt));
}

pub +ᶠ_mono_< : {x y u v : Fraction} → x ≤ᶠ y → u <ᶠ v → (x +ᶠ u) <ᶠ (y +ᶠ v)
+ᶠ_mono_< {x} {y} {u} {v} h k = record {
  cross = certify_< one_above (product_above u.above v.above ⊙ h.cross ⊕< product_above x.above y.above ⊙< k.cross)
      (fractions (x ∷ y ∷ u ∷ v ∷ []) λ φ p. simp (quoteᶠ, p 0, p 1, p 2, p 3, numeral (terms φ)) (solved _ _ _ tt));
}

pub +ᶠ_<_mono : {x y u v : Fraction} → x <ᶠ y → u ≤ᶠ v → (x +ᶠ u) <ᶠ (y +ᶠ v)
+ᶠ_<_mono {x} {y} {u} {v} h k = ≈_<ᶠ (+ᶠ_comm x u) (<ᶠ_≈ (+ᶠ_mono_< k h) (+ᶠ_comm v y))

pub +ᶠ_cong : {x y u v : Fraction} → x ≈ y → u ≈ v → (x +ᶠ u) ≈ (y +ᶠ v)
+ᶠ_cong h k = ≤ᶠ_antisymm (+ᶠ_mono (≤ᶠ_of_≈ h) (≤ᶠ_of_≈ k)) (+ᶠ_mono (≤ᶠ_of_≈ (≈_sym h)) (≤ᶠ_of_≈ (≈_sym k)))

pub +ᶠ_cancel : {x y : Fraction} (z : Fraction) → (x +ᶠ z) ≤ᶠ (y +ᶠ z) → x ≤ᶠ y
+ᶠ_cancel z h = ≤ᶠ_of_not_<ᶠ (λ k. clashᶠ (+ᶠ_<_mono k (≤ᶠ_refl z)) h)

pub +ᶠ_cancel_< : {x y : Fraction} (z : Fraction) → (x +ᶠ z) <ᶠ (y +ᶠ z) → x <ᶠ y
+ᶠ_cancel_< z h = <ᶠ_of_not_≤ᶠ (λ k. clashᶠ h (+ᶠ_mono k (≤ᶠ_refl z)))

pub +ᶠ_cancel_≈ : {x y : Fraction} (z : Fraction) → (x +ᶠ z) ≈ (y +ᶠ z) → x ≈ y
+ᶠ_cancel_≈ z h = ≤ᶠ_antisymm (+ᶠ_cancel z (≤ᶠ_of_≈ h)) (+ᶠ_cancel z (≤ᶠ_of_≈ (≈_sym h)))

-- ---- the difference
pub -ᶠ_is : (x y : Fraction) → (x -ᶠ y) ≈ (x +ᶠ negᶠ y)
-ᶠ_is x y = ≈_of_parts (simp neg_ℤ_*ℤ) refl

pub add_then_sub : (x y : Fraction) → (x +ᶠ y -ᶠ y) ≈ x
add_then_sub x y = record { cross = fractions (x ∷ y ∷ []) λ φ p. simp (quoteᶠ, p 0, p 1) (solved _ _ _ tt) }

pub sub_then_add : (x y : Fraction) → (x -ᶠ y +ᶠ y) ≈ x
sub_then_add x y = record { cross = fractions (x ∷ y ∷ []) λ φ p. simp (quoteᶠ, p 0, p 1) (solved _ _ _ tt) }

pub -ᶠ_self : (x : Fraction) → (x -ᶠ x) ≈ whole (pos 0)
-ᶠ_self x = record { cross = fractions (x ∷ []) λ φ p. simp (quoteᶠ, p 0, numeral (terms φ)) (solved _ _ _ tt) }

pub negᶠ_+ᶠ : (x y : Fraction) → negᶠ (x +ᶠ y) ≈ (negᶠ x +ᶠ negᶠ y)
negᶠ_+ᶠ x y = ≈_of_parts (simp (neg_ℤ-+ℤ, neg_ℤ_*ℤ)) refl

pub negᶠ_difference : (x y : Fraction) → negᶠ (x -ᶠ y) ≈ (y -ᶠ x)
negᶠ_difference x y = record { cross = fractions (x ∷ y ∷ []) λ φ p. simp (quoteᶠ, p 0, p 1) (solved _ _ _ tt) }

pub -ᶠ_mono : {x y u v : Fraction} → x ≤ᶠ y → v ≤ᶠ u → (x -ᶠ u) ≤ᶠ (y -ᶠ v)
-ᶠ_mono {x} {y} {u} {v} h k = ≈_≤ᶠ (-ᶠ_is x u) (≤ᶠ_≈ (+ᶠ_mono h (negᶠ_≤ᶠ k)) (≈_sym (-ᶠ_is y v)))

pub -ᶠ_mono_< : {x y u v : Fraction} → x ≤ᶠ y → v <ᶠ u → (x -ᶠ u) <ᶠ (y -ᶠ v)
-ᶠ_mono_< {x} {y} {u} {v} h k = ≈_<ᶠ (-ᶠ_is x u) (<ᶠ_≈ (+ᶠ_mono_< h (negᶠ_<ᶠ k)) (≈_sym (-ᶠ_is y v)))

pub -ᶠ_<_mono : {x y u v : Fraction} → x <ᶠ y → v ≤ᶠ u → (x -ᶠ u) <ᶠ (y -ᶠ v)
-ᶠ_<_mono {x} {y} {u} {v} h k = ≈_<ᶠ (-ᶠ_is x u) (<ᶠ_≈ (+ᶠ_<_mono h (negᶠ_≤ᶠ k)) (≈_sym (-ᶠ_is y v)))

pub -ᶠ_cong : {x y u v : Fraction} → x ≈ y → u ≈ v → (x -ᶠ u) ≈ (y -ᶠ v)
-ᶠ_cong h k = ≤ᶠ_antisymm (-ᶠ_mono (≤ᶠ_of_≈ h) (≤ᶠ_of_≈ (≈_sym k))) (-ᶠ_mono (≤ᶠ_of_≈ (≈_sym h)) (≤ᶠ_of_≈ k))

-- ---- a summand goes to the other side
pub difference_≤ᶠ : {x z : Fraction} (y : Fraction) → ((x -ᶠ y) ≤ᶠ z) ↔ (x ≤ᶠ (z +ᶠ y))
difference_≤ᶠ {x} {z} y = (λ h. ≈_≤ᶠ (≈_sym (sub_then_add x y)) (+ᶠ_mono h (≤ᶠ_refl y)), λ h. ≤ᶠ_≈ (-ᶠ_mono h (≤ᶠ_refl y)) (add_then_sub z y))

pub ≤ᶠ_difference : {x z : Fraction} (y : Fraction) → (x ≤ᶠ (z -ᶠ y)) ↔ ((x +ᶠ y) ≤ᶠ z)
≤ᶠ_difference {x} {z} y = (λ h. ≤ᶠ_≈ (+ᶠ_mono h (≤ᶠ_refl y)) (sub_then_add z y), λ h. ≈_≤ᶠ (≈_sym (add_then_sub x y)) (-ᶠ_mono h (≤ᶠ_refl y)))

pub difference_<ᶠ : {x z : Fraction} (y : Fraction) → ((x -ᶠ y) <ᶠ z) ↔ (x <ᶠ (z +ᶠ y))
difference_<ᶠ {x} {z} y = (λ h. <ᶠ_of_not_≤ᶠ (λ k. clashᶠ h ((≤ᶠ_difference y).1 k)), λ h. <ᶠ_of_not_≤ᶠ (λ k. clashᶠ h ((≤ᶠ_difference y).0 k)))

pub <ᶠ_difference : {x z : Fraction} (y : Fraction) → (x <ᶠ (z -ᶠ y)) ↔ ((x +ᶠ y) <ᶠ z)
<ᶠ_difference {x} {z} y = (λ h. <ᶠ_of_not_≤ᶠ (λ k. clashᶠ h ((difference_≤ᶠ y).1 k)), λ h. <ᶠ_of_not_≤ᶠ (λ k. clashᶠ h ((difference_≤ᶠ y).0 k)))
