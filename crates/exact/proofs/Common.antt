-- Fractions over one denominator compare, add and subtract as their numerators, and a factor on both sides of a fraction changes nothing.
use mathlib.Core.Path.{◌≡◌}
use mathlib.Core.Logic.{◌↔◌}
use mathlib.Core.List.{[], ◌∷◌}
use lib.IntN.{ℤ, pos, ◌+ℤ◌, ◌-ℤ◌, ◌*ℤ◌}
use lib.Signed.{◌≤ℤ◌, ◌<ℤ◌}
use Rattle.exact.specs.Whole.{product_above}
use Rattle.exact.specs.Fraction.{Fraction, ◌≤ᶠ◌, ◌<ᶠ◌, ◌≈◌, ◌+ᶠ◌, ◌-ᶠ◌}
use Rattle.exact.proofs.Ring.{atoms, quote, solved}
use Rattle.exact.proofs.Certificate.{*ℤ_≤ℤ, *ℤ_<ℤ, *ℤ_≡}

-- a / d
abbrev pub over : (a : ℤ) {d : ℤ} → pos 0 <ℤ d → Fraction
over a {d} s = record { num = a; den = d; above = s }

pub over_≤ᶠ : {d : ℤ} (s : pos 0 <ℤ d) {a b : ℤ} → (over a s ≤ᶠ over b s) ↔ (a ≤ℤ b)
over_≤ᶠ s = (λ h. (*ℤ_≤ℤ s).0 h.cross, λ h. record { cross = (*ℤ_≤ℤ s).1 h })

pub over_<ᶠ : {d : ℤ} (s : pos 0 <ℤ d) {a b : ℤ} → (over a s <ᶠ over b s) ↔ (a <ℤ b)
over_<ᶠ s = (λ h. (*ℤ_<ℤ s).0 h.cross, λ h. record { cross = (*ℤ_<ℤ s).1 h })

pub over_≈ : {d : ℤ} (s : pos 0 <ℤ d) {a b : ℤ} → (over a s ≈ over b s) ↔ (a ≡ b)
over_≈ s = (λ h. (*ℤ_≡ s).0 h.cross, λ h. record { cross = (*ℤ_≡ s).1 h })

pub over_+ᶠ : {d : ℤ} (s : pos 0 <ℤ d) (a b : ℤ) → (over a s +ᶠ over b s) ≈ over (a +ℤ b) s
over_+ᶠ {d} s a b = record { cross = atoms (a ∷ b ∷ d ∷ []) λ σ p. simp (quote, p 0, p 1, p 2) (solved _ _ _ tt) }

pub over_difference : {d : ℤ} (s : pos 0 <ℤ d) (a b : ℤ) → (over a s -ᶠ over b s) ≈ over (a -ℤ b) s
over_difference {d} s a b = record { cross = atoms (a ∷ b ∷ d ∷ []) λ σ p. simp (quote, p 0, p 1, p 2) (solved _ _ _ tt) }

pub over_expand : {d : ℤ} (s : pos 0 <ℤ d) {m : ℤ} (t : pos 0 <ℤ m) (a : ℤ) → over a s ≈ over (a *ℤ m) (product_above s t)
over_expand {d} s {m} t a = record { cross = atoms (a ∷ d ∷ m ∷ []) λ σ p. simp (quote, p 0, p 1, p 2) (solved _ _ _ tt) }
