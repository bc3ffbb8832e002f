-- The product of fractions: with the sum a commutative ring up to ≈, ordered by the sign of a factor.
use mathlib.Core.Path.{refl}
use mathlib.Core.Logic.{◌⊎◌, inl, inr}
use mathlib.Core.List.{[], ◌∷◌}
use lib.IntN.{pos, ◌*ℤ◌}
use Rattle.exact.specs.Fraction.{Fraction, ◌≤ᶠ◌, ◌<ᶠ◌, ◌≈◌, whole, negᶠ, ◌+ᶠ◌, ◌-ᶠ◌, ◌*ᶠ◌}
use Rattle.exact.proofs.Whole.{neg_ℤ_*ℤ, *ℤ_neg_ℤ}
use Rattle.exact.proofs.Ring.{solved, numeral}
use Rattle.exact.proofs.FractionRing.{fractions, quoteᶠ, terms}
use Rattle.exact.proofs.Certificate.{◌⊙◌, ◌⊙<◌, ◌⊙≡◌, ◌⊕≡◌, *ℤ_mono, *ℤ_mono_<, certify, certify_<, certify_≡, one_above}
use Rattle.exact.proofs.Order.{≈_of_parts, ≤ᶠ_trans, ≤ᶠ_of_<ᶠ, ≤ᶠ_of_≈, ≤ᶠ_antisymm, ≈_sym, ≈_trans, ≤ᶠ_≈, ≈_≤ᶠ, <ᶠ_≈, ≈_<ᶠ, clashᶠ, <ᶠ_of_not_≤ᶠ, ≤ᶠ_of_not_<ᶠ, ≈_decided}
use Rattle.exact.proofs.Sum.{negᶠ_cong, negᶠ_negᶠ}
use Rattle.exact.proofs.Sign.{≥0, >0, negᶠ_>0, sign_of_not_≈0}

-- ---- a ring
pub *ᶠ_comm : (x y : Fraction) → (x *ᶠ y) ≈ (y *ᶠ x)
*ᶠ_comm x y = record { cross = fractions (x ∷ y ∷ []) λ φ p. simp (quoteᶠ, p 0, p 1) (solved _ _ _ tt) }

pub *ᶠ_assoc : (x y z : Fraction) → (x *ᶠ y *ᶠ z) ≈ (x *ᶠ (y *ᶠ z))
*ᶠ_assoc x y z = record { cross = fractions (x ∷ y ∷ z ∷ []) λ φ p. simp (quoteᶠ, p 0, p 1, p 2) (solved _ _ _ tt) }

pub *ᶠ_idr : (x : Fraction) → (x *ᶠ whole (pos 1)) ≈ x
*ᶠ_idr x = record { cross = fractions (x ∷ []) λ φ p. simp (quoteᶠ, p 0, numeral (terms φ)) (solved _ _ _ tt) }

pub *ᶠ_zero : (x : Fraction) → (x *ᶠ whole (pos 0)) ≈ whole (pos 0)
*ᶠ_zero x = record { cross = fractions (x ∷ []) λ φ p. simp (quoteᶠ, p 0, numeral (terms φ)) (solved _ _ _ tt) }

pub *ᶠ_idl : (x : Fraction) → (whole (pos 1) *ᶠ x) ≈ x
*ᶠ_idl x = ≈_trans (*ᶠ_comm (whole (pos 1)) x) (*ᶠ_idr x)

pub zero_*ᶠ : (x : Fraction) → (whole (pos 0) *ᶠ x) ≈ whole (pos 0)
zero_*ᶠ x = ≈_trans (*ᶠ_comm (whole (pos 0)) x) (*ᶠ_zero x)

pub *ᶠ_+ᶠ : (x y z : Fraction) → (x *ᶠ (y +ᶠ z)) ≈ (x *ᶠ y +ᶠ x *ᶠ z)
*ᶠ_+ᶠ x y z = record { cross = fractions (x ∷ y ∷ z ∷ []) λ φ p. simp (quoteᶠ, p 0, p 1, p 2) (solved _ _ _ tt) }

pub +ᶠ_*ᶠ : (x y z : Fraction) → ((x +ᶠ y) *ᶠ z) ≈ (x *ᶠ z +ᶠ y *ᶠ z)
+ᶠ_*ᶠ x y z = record { cross = fractions (x ∷ y ∷ z ∷ []) λ φ p. simp (quoteᶠ, p 0, p 1, p 2) (solved _ _ _ tt) }

pub *ᶠ_difference : (x y z : Fraction) → (x *ᶠ (y -ᶠ z)) ≈ (x *ᶠ y -ᶠ x *ᶠ z)
*ᶠ_difference x y z = record { cross = fractions (x ∷ y ∷ z ∷ []) λ φ p. simp (quoteᶠ, p 0, p 1, p 2) (solved _ _ _ tt) }

pub negᶠ_*ᶠ : (x y : Fraction) → (negᶠ x *ᶠ y) ≈ negᶠ (x *ᶠ y)
negᶠ_*ᶠ x y = ≈_of_parts (neg_ℤ_*ℤ x.num y.num) refl

pub *ᶠ_negᶠ : (x y : Fraction) → (x *ᶠ negᶠ y) ≈ negᶠ (x *ᶠ y)
*ᶠ_negᶠ x y = ≈_of_parts (*ℤ_neg_ℤ x.num y.num) refl

pub negᶠ_*ᶠ_negᶠ : (x y : Fraction) → (negᶠ x *ᶠ negᶠ y) ≈ (x *ᶠ y)
negᶠ_*ᶠ_negᶠ x y = ≈_trans (negᶠ_*ᶠ x (negᶠ y)) (≈_trans (negᶠ_cong (*ᶠ_negᶠ x y)) (negᶠ_negᶠ (x *ᶠ y)))

pub *ᶠ_cong : {x y u v : Fraction} → x ≈ y → u ≈ v → (x *ᶠ u) ≈ (y *ᶠ v)
*ᶠ_cong {x} {y} {u} {v} h k = record {
  cross = certify_≡ one_above ((u.num *ℤ v.den) ⊙≡ h.cross ⊕≡ (y.num *ℤ x.den) ⊙≡ k.cross)
      (fractions (x ∷ y ∷ u ∷ v ∷ []) λ φ p. simp (quoteᶠ, p 0, p 1, p 2, p 3, numeral (terms φ)) (solved _ _ _ tt));
}

-- ---- by a factor ≥ 0, or above 0
pub *ᶠ_mono : {z x y : Fraction} → whole (pos 0) ≤ᶠ z → x ≤ᶠ y → (z *ᶠ x) ≤ᶠ (z *ᶠ y)
*ᶠ_mono {z} {x} {y} s h = record {
  cross = certify one_above (z.above ⊙ *ℤ_mono (≥0.0 s) h.cross)
      (fractions (x ∷ y ∷ z ∷ []) λ φ p. simp (quoteᶠ, p 0, p 1, p 2, numeral (terms φ)) (solved _ _ _ tt));
}

pub *ᶠ_mono_< : {z x y : Fraction} → whole (pos 0) <ᶠ z → x <ᶠ y → (z *ᶠ x) <ᶠ (z *ᶠ y)
*ᶠ_mono_< {z} {x} {y} s h = record {
  cross = certify_< one_above (z.above ⊙< *ℤ_mono_< (>0.0 s) h.cross)
      (fractions (x ∷ y ∷ z ∷ []) λ φ p. simp (quoteᶠ, p 0, p 1, p 2, numeral (terms φ)) (solved _ _ _ tt));
}

pub *ᶠ_monoʳ : {z x y : Fraction} → whole (pos 0) ≤ᶠ z → x ≤ᶠ y → (x *ᶠ z) ≤ᶠ (y *ᶠ z)
*ᶠ_monoʳ {z} {x} {y} s h = ≈_≤ᶠ (*ᶠ_comm x z) (≤ᶠ_≈ (*ᶠ_mono s h) (*ᶠ_comm z y))

pub *ᶠ_monoʳ_< : {z x y : Fraction} → whole (pos 0) <ᶠ z → x <ᶠ y → (x *ᶠ z) <ᶠ (y *ᶠ z)
*ᶠ_monoʳ_< {z} {x} {y} s h = ≈_<ᶠ (*ᶠ_comm x z) (<ᶠ_≈ (*ᶠ_mono_< s h) (*ᶠ_comm z y))

pub *ᶠ_cancel : {z x y : Fraction} → whole (pos 0) <ᶠ z → (z *ᶠ x) ≤ᶠ (z *ᶠ y) → x ≤ᶠ y
*ᶠ_cancel s h = ≤ᶠ_of_not_<ᶠ (λ k. clashᶠ (*ᶠ_mono_< s k) h)

pub *ᶠ_cancel_< : {z x y : Fraction} → whole (pos 0) <ᶠ z → (z *ᶠ x) <ᶠ (z *ᶠ y) → x <ᶠ y
*ᶠ_cancel_< s h = <ᶠ_of_not_≤ᶠ (λ k. clashᶠ h (*ᶠ_mono (≤ᶠ_of_<ᶠ s) k))

pub *ᶠ_cancel_≈ : {z x y : Fraction} → ¬ (z ≈ whole (pos 0)) → (z *ᶠ x) ≈ (z *ᶠ y) → x ≈ y
*ᶠ_cancel_≈ {z} {x} {y} n e = elim (sign_of_not_≈0 n) [
  | inr s ↦ by_sign s e
  | inl s ↦ by_sign (negᶠ_>0 s) (≈_trans (negᶠ_*ᶠ z x) (≈_trans (negᶠ_cong e) (≈_sym (negᶠ_*ᶠ z y))))
]
  where
    by_sign : {w : Fraction} → whole (pos 0) <ᶠ w → (w *ᶠ x) ≈ (w *ᶠ y) → x ≈ y
    by_sign s d = ≤ᶠ_antisymm (*ᶠ_cancel s (≤ᶠ_of_≈ d)) (*ᶠ_cancel s (≤ᶠ_of_≈ (≈_sym d)))

pub zero_factor : {x y : Fraction} → (x *ᶠ y) ≈ whole (pos 0) → (x ≈ whole (pos 0)) ⊎ (y ≈ whole (pos 0))
zero_factor {x} {y} e = elim (≈_decided x (whole (pos 0))) [ yes z ↦ inl z | no n ↦ inr (*ᶠ_cancel_≈ n (≈_trans e (≈_sym (*ᶠ_zero x)))) ]

-- ---- signs
pub product_≥0 : {x y : Fraction} → whole (pos 0) ≤ᶠ x → whole (pos 0) ≤ᶠ y → whole (pos 0) ≤ᶠ (x *ᶠ y)
product_≥0 {x} {y} h k = ≈_≤ᶠ (≈_sym (*ᶠ_zero x)) (*ᶠ_mono h k)

pub *ᶠ_mono₂ : {x y u v : Fraction} → whole (pos 0) ≤ᶠ x → x ≤ᶠ y → whole (pos 0) ≤ᶠ u → u ≤ᶠ v → (x *ᶠ u) ≤ᶠ (y *ᶠ v)
*ᶠ_mono₂ s h t k = ≤ᶠ_trans (*ᶠ_mono s k) (*ᶠ_monoʳ (≤ᶠ_trans t k) h)

pub product_above_above : {x y : Fraction} → whole (pos 0) <ᶠ x → whole (pos 0) <ᶠ y → whole (pos 0) <ᶠ (x *ᶠ y)
product_above_above {x} {y} h k = ≈_<ᶠ (≈_sym (*ᶠ_zero x)) (*ᶠ_mono_< h k)

pub product_above_below : {x y : Fraction} → whole (pos 0) <ᶠ x → y <ᶠ whole (pos 0) → (x *ᶠ y) <ᶠ whole (pos 0)
product_above_below {x} {y} h k = <ᶠ_≈ (*ᶠ_mono_< h k) (*ᶠ_zero x)

pub product_below_above : {x y : Fraction} → x <ᶠ whole (pos 0) → whole (pos 0) <ᶠ y → (x *ᶠ y) <ᶠ whole (pos 0)
product_below_above {x} {y} h k = ≈_<ᶠ (*ᶠ_comm x y) (product_above_below k h)

pub product_below_below : {x y : Fraction} → x <ᶠ whole (pos 0) → y <ᶠ whole (pos 0) → whole (pos 0) <ᶠ (x *ᶠ y)
product_below_below {x} {y} h k = <ᶠ_≈ (product_above_above (negᶠ_>0 h) (negᶠ_>0 k)) (negᶠ_*ᶠ_negᶠ x y)
