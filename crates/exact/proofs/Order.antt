-- Fractions are ordered by their cross products: the order is linear and decided by its tests, equality of fractions (≈) respects it, and
-- between two fractions lies a third. What is transitive is so by one certificate: the cross products weighed by the third denominator.
use mathlib.Core.Path.{◌≡◌, refl, sym, ap₂}
use mathlib.Core.Bool.{not}
use mathlib.Core.Logic.{◌⊎◌, inl, inr, ◌↔◌}
use mathlib.Core.List.{[], ◌∷◌}
use native.Mathlib.Decide.{map_dec}
use lib.Dec.{T, not_T}
use lib.IntN.{ℤ, pos, ◌*ℤ◌, ℤ_discrete}
use lib.Signed.{le_z_yes, lt_z_yes, lt_z_no, clash_ℤ}
use Rattle.exact.specs.Fraction.{Fraction, ◌≤ᶠ◌, ◌<ᶠ◌, ◌≈◌, leᶠ, ltᶠ, whole, over_power, ◌+ᶠ◌, ◌-ᶠ◌, ◌*ᶠ◌}
use Rattle.exact.proofs.Ring.{solved, numeral}
use Rattle.exact.proofs.FractionRing.{fractions, quoteᶠ, terms}
use Rattle.exact.proofs.WholeOrder.{≤ℤ_of_<ℤ, ≤ℤ_of_≡, ≤ℤ_antisymm, ≤ℤ_or_<ℤ, le_z_no}
use Rattle.exact.proofs.Certificate.{◌⊙◌, ◌⊙<◌, ◌⊕◌, certify, certify_<, one_above}

-- ---- equality, ≤ and <
pub ≤ᶠ_of_<ᶠ : {x y : Fraction} → x <ᶠ y → x ≤ᶠ y
≤ᶠ_of_<ᶠ h = record { cross = ≤ℤ_of_<ℤ h.cross }

pub ≤ᶠ_of_≈ : {x y : Fraction} → x ≈ y → x ≤ᶠ y
≤ᶠ_of_≈ h = record { cross = ≤ℤ_of_≡ h.cross }

pub ≤ᶠ_antisymm : {x y : Fraction} → x ≤ᶠ y → y ≤ᶠ x → x ≈ y
≤ᶠ_antisymm h k = record { cross = ≤ℤ_antisymm h.cross k.cross }

pub ≈_refl : (x : Fraction) → x ≈ x
≈_refl x = record { cross = refl }

pub ≈_sym : {x y : Fraction} → x ≈ y → y ≈ x
≈_sym h = record { cross = sym h.cross }

pub ≈_of_parts : {x y : Fraction} → x.num ≡ y.num → x.den ≡ y.den → x ≈ y
≈_of_parts h k = record { cross = ap₂ (λ (a b : ℤ). a *ℤ b) h (sym k) }

pub ≤ᶠ_refl : (x : Fraction) → x ≤ᶠ x
≤ᶠ_refl x = ≤ᶠ_of_≈ (≈_refl x)

-- ---- transitivity
pub ≤ᶠ_trans : {x y z : Fraction} → x ≤ᶠ y → y ≤ᶠ z → x ≤ᶠ z
≤ᶠ_trans {x} {y} {z} h k = record {
  cross = certify y.above (z.above ⊙ h.cross ⊕ x.above ⊙ k.cross)
      (fractions (x ∷ y ∷ z ∷ []) λ φ p. simp (quoteᶠ, p 0, p 1, p 2) (solved _ _ _ tt));
}

pub clashᶠ {ℓ} : {X : Type ℓ} {x y : Fraction} → x <ᶠ y → y ≤ᶠ x → X
clashᶠ h k = clash_ℤ h.cross k.cross

pub ≤ᶠ_or_<ᶠ : (x y : Fraction) → (x ≤ᶠ y) ⊎ (y <ᶠ x)
≤ᶠ_or_<ᶠ x y = elim (≤ℤ_or_<ℤ (x.num *ℤ y.den) (y.num *ℤ x.den)) [ inl h ↦ inl (record { cross = h }) | inr h ↦ inr (record { cross = h }) ]

pub <ᶠ_of_not_≤ᶠ : {x y : Fraction} → ¬ (x ≤ᶠ y) → y <ᶠ x
<ᶠ_of_not_≤ᶠ {x} {y} h = elim (≤ᶠ_or_<ᶠ x y) [ inl k ↦ absurd (h k) | inr k ↦ k ]

pub ≤ᶠ_of_not_<ᶠ : {x y : Fraction} → ¬ (x <ᶠ y) → y ≤ᶠ x
≤ᶠ_of_not_<ᶠ {x} {y} h = elim (≤ᶠ_or_<ᶠ y x) [ inl k ↦ k | inr k ↦ absurd (h k) ]

pub <ᶠ_irrefl : {x : Fraction} → ¬ (x <ᶠ x)
<ᶠ_irrefl {x} h = clashᶠ h (≤ᶠ_refl x)

pub ≤ᶠ_<ᶠ_trans : {x y z : Fraction} → x ≤ᶠ y → y <ᶠ z → x <ᶠ z
≤ᶠ_<ᶠ_trans h k = <ᶠ_of_not_≤ᶠ (λ l. clashᶠ k (≤ᶠ_trans l h))

pub <ᶠ_≤ᶠ_trans : {x y z : Fraction} → x <ᶠ y → y ≤ᶠ z → x <ᶠ z
<ᶠ_≤ᶠ_trans h k = <ᶠ_of_not_≤ᶠ (λ l. clashᶠ h (≤ᶠ_trans k l))

pub <ᶠ_trans : {x y z : Fraction} → x <ᶠ y → y <ᶠ z → x <ᶠ z
<ᶠ_trans h k = ≤ᶠ_<ᶠ_trans (≤ᶠ_of_<ᶠ h) k

-- ---- equality respects the order
pub ≈_trans : {x y z : Fraction} → x ≈ y → y ≈ z → x ≈ z
≈_trans h k = ≤ᶠ_antisymm (≤ᶠ_trans (≤ᶠ_of_≈ h) (≤ᶠ_of_≈ k)) (≤ᶠ_trans (≤ᶠ_of_≈ (≈_sym k)) (≤ᶠ_of_≈ (≈_sym h)))

-- the same, for a chain
infixr 20 ◌⨾◌
pub ◌⨾◌ : {x y z : Fraction} → x ≈ y → y ≈ z → x ≈ z
h ⨾ k = ≈_trans h k

pub ≤ᶠ_≈ : {x y z : Fraction} → x ≤ᶠ y → y ≈ z → x ≤ᶠ z
≤ᶠ_≈ h e = ≤ᶠ_trans h (≤ᶠ_of_≈ e)

pub ≈_≤ᶠ : {x y z : Fraction} → x ≈ y → y ≤ᶠ z → x ≤ᶠ z
≈_≤ᶠ e h = ≤ᶠ_trans (≤ᶠ_of_≈ e) h

pub <ᶠ_≈ : {x y z : Fraction} → x <ᶠ y → y ≈ z → x <ᶠ z
<ᶠ_≈ h e = <ᶠ_≤ᶠ_trans h (≤ᶠ_of_≈ e)

pub ≈_<ᶠ : {x y z : Fraction} → x ≈ y → y <ᶠ z → x <ᶠ z
≈_<ᶠ e h = ≤ᶠ_<ᶠ_trans (≤ᶠ_of_≈ e) h

pub ≤ᶠ_respects : {x y u v : Fraction} → x ≈ y → u ≈ v → (x ≤ᶠ u) ↔ (y ≤ᶠ v)
≤ᶠ_respects d e = (λ h. ≈_≤ᶠ (≈_sym d) (≤ᶠ_≈ h e), λ h. ≈_≤ᶠ d (≤ᶠ_≈ h (≈_sym e)))

pub <ᶠ_respects : {x y u v : Fraction} → x ≈ y → u ≈ v → (x <ᶠ u) ↔ (y <ᶠ v)
<ᶠ_respects d e = (λ h. ≈_<ᶠ (≈_sym d) (<ᶠ_≈ h e), λ h. ≈_<ᶠ d (<ᶠ_≈ h (≈_sym e)))

pub ≈_respects : {x y u v : Fraction} → x ≈ y → u ≈ v → (x ≈ u) ↔ (y ≈ v)
≈_respects d e = (λ h. ≈_trans (≈_sym d) (≈_trans h e), λ h. ≈_trans d (≈_trans h (≈_sym e)))

pub trichotomy : (x y : Fraction) → (x <ᶠ y) ⊎ (x ≈ y) ⊎ (y <ᶠ x)
trichotomy x y = elim (≤ᶠ_or_<ᶠ x y) [ inl h ↦ elim (≤ᶠ_or_<ᶠ y x) [ inl k ↦ inr (inl (≤ᶠ_antisymm h k)) | inr k ↦ inl k ] | inr h ↦ inr (inr h) ]

pub <ᶠ_of_≤ᶠ_not_≈ : {x y : Fraction} → x ≤ᶠ y → ¬ (x ≈ y) → x <ᶠ y
<ᶠ_of_≤ᶠ_not_≈ h n = <ᶠ_of_not_≤ᶠ (λ k. n (≤ᶠ_antisymm h k))

pub ≈_decided : (x y : Fraction) → Dec (x ≈ y)
≈_decided x y = map_dec (λ e. record { cross = e }) (λ e. e.cross) (ℤ_discrete (x.num *ℤ y.den) (y.num *ℤ x.den))

-- ---- the tests
pub leᶠ_yes : {x y : Fraction} → T (leᶠ x y) → x ≤ᶠ y
leᶠ_yes t = record { cross = le_z_yes t }

pub leᶠ_no : {x y : Fraction} → T (not (leᶠ x y)) → y <ᶠ x
leᶠ_no t = record { cross = le_z_no t }

pub ltᶠ_yes : {x y : Fraction} → T (ltᶠ x y) → x <ᶠ y
ltᶠ_yes t = record { cross = lt_z_yes t }

pub ltᶠ_no : {x y : Fraction} → T (not (ltᶠ x y)) → y ≤ᶠ x
ltᶠ_no t = record { cross = lt_z_no t }

pub leᶠ_of_≤ᶠ : {x y : Fraction} → x ≤ᶠ y → T (leᶠ x y)
leᶠ_of_≤ᶠ h = h.cross.le

pub ltᶠ_of_<ᶠ : {x y : Fraction} → x <ᶠ y → T (ltᶠ x y)
ltᶠ_of_<ᶠ h = h.cross.lt

pub not_leᶠ : {x y : Fraction} → y <ᶠ x → T (not (leᶠ x y))
not_leᶠ {x} {y} h = not_T (leᶠ x y) (λ t. clashᶠ h (leᶠ_yes t))

pub not_ltᶠ : {x y : Fraction} → y ≤ᶠ x → T (not (ltᶠ x y))
not_ltᶠ {x} {y} h = not_T (ltᶠ x y) (λ t. clashᶠ (ltᶠ_yes t) h)

-- ---- no fraction is next to another, and none is the last
pub middle : Fraction → Fraction → Fraction
middle x y = (x +ᶠ y) *ᶠ over_power (pos 1) 1

pub middle_above : {x y : Fraction} → x <ᶠ y → x <ᶠ middle x y
unfolding middle
middle_above {x} {y} h = record {
  cross = certify_< one_above (x.above ⊙< h.cross)
      (fractions (x ∷ y ∷ []) λ φ p. simp (quoteᶠ, p 0, p 1, numeral (terms φ)) (solved _ _ _ tt));
}

pub middle_below : {x y : Fraction} → x <ᶠ y → middle x y <ᶠ y
unfolding middle
middle_below {x} {y} h = record {
  cross = certify_< one_above (y.above ⊙< h.cross)
      (fractions (x ∷ y ∷ []) λ φ p. simp (quoteᶠ, p 0, p 1, numeral (terms φ)) (solved _ _ _ tt));
}

pub one_more : (x : Fraction) → x <ᶠ (x +ᶠ whole (pos 1))
one_more x = record {
  cross = certify_< one_above (x.above ⊙< x.above)
      (fractions (x ∷ []) λ φ p. simp (quoteᶠ, p 0, numeral (terms φ)) (solved _ _ _ tt));
}

pub one_less : (x : Fraction) → (x -ᶠ whole (pos 1)) <ᶠ x
one_less x = record {
  cross = certify_< one_above (x.above ⊙< x.above)
      (fractions (x ∷ []) λ φ p. simp (quoteᶠ, p 0, numeral (terms φ)) (solved _ _ _ tt));
}
