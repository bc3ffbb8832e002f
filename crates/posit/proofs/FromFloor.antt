-- The floor among the patterns one bit longer gives the rounding: the tests of the rule are settled by its half, its last bit and whether it is
-- exact (`Located`), and these choose the same answer in `rounded_of`.
use Rattle.std.proofs.Common.{◌≡◌, ℕ, ◌+◌, ◌/◌, ◌%◌, ◌^◌, ◌<◌, ◌≤◌, Bool, true, false, ◌⊎◌, pos, sym, refl, ◌∙◌, subst, inl, inr, eq-zero-or-pos, arith}
use native.Mathlib.Decide.{ℕ_discrete}
use Rattle.exact.specs.Fraction.{Fraction, ◌<ᶠ◌, ◌≈◌, whole}
use Rattle.exact.proofs.Powers.{parity}
use Rattle.posit.specs.Format.{max_pos}
use Rattle.posit.specs.Value.{value}
use Rattle.posit.specs.Nearest.{nearest}
use Rattle.posit.specs.Rounding.{Rounds}
use Rattle.posit.specs.Locating.{IsFloor}
use Rattle.posit.specs.Parts.{rounded_of}
use Rattle.posit.proofs.Signs.{above_of}
use Rattle.posit.proofs.Floor.{Floor}
use Rattle.posit.proofs.Rounded.{rounded}
use Rattle.posit.proofs.OneAnswer.{nearest_finite}
use Rattle.posit.proofs.Located.{floor_cut, located_none, located_last, located_lower, located_upper, located_even}
use Rattle.posit.proofs.RoundedOf.{to_min_pos, to_half, to_max_pos, to_even, to_next}

module _ (n es : ℕ) (wide : 3 ≤ n) {x : Fraction} {L : ℕ} (f : IsFloor (n + 1) es x L) (above : whole (pos 0) <ᶠ x) where
  floor : Floor (n + 1) es x (max_pos (n + 1)) L
  floor = record { at_most = omega (arith, f.fits); reached = f.at_most; not_next = λ h. f.next_above (omega arith) }

  module _ {exact : Bool} (hit : exact ≡ true → x ≈ value (n + 1) es L) (miss : exact ≡ false → value (n + 1) es L <ᶠ x) where
    pub nearest_from_floor : nearest n es x ≡ rounded_of n L exact
    nearest_from_floor = by (eq-zero-or-pos (L / 2)) (parity L) (ℕ_discrete (L / 2) (max_pos n)) exact refl
      where
        below_last : L / 2 ≤ max_pos n
        below_last = (floor_cut n es wide floor).at_most

        by : (L / 2 ≡ 0) ⊎ (0 < L / 2) → (L % 2 ≡ 0) ⊎ (L % 2 ≡ 1) → Dec (L / 2 ≡ max_pos n) → (c : Bool) → exact ≡ c → nearest n es x ≡ rounded_of n L exact
        by (inl z) r t c e = located_none n es wide floor (above_of above) z ∙ sym (to_min_pos n L exact z)
        by (inr h) (inl r) (yes t) c e = located_last n es wide floor (above_of above) t ∙ sym (to_half n L exact h r)
        by (inr h) (inl r) (no t) c e = located_lower n es wide floor (above_of above) h (omega (arith, below_last)) r ∙ sym (to_half n L exact h r)
        by (inr h) (inr r) (yes t) c e = located_last n es wide floor (above_of above) t ∙ sym (to_max_pos n L exact h r t)
        by (inr h) (inr r) (no t) true e =
            located_even n es wide floor (above_of above) h (omega (arith, below_last)) r (hit e) ∙ sym (to_even n L exact h r t e)
        by (inr h) (inr r) (no t) false e =
            located_upper n es wide floor (above_of above) h (omega (arith, below_last)) r (miss e) ∙ sym (to_next n L exact h r t e)

    pub rounds_from_floor : Rounds n es x (rounded_of n L exact)
    rounds_from_floor = subst (λ p. Rounds n es x p) nearest_from_floor (rounded n es wide x)

    pub rounded_fits : rounded_of n L exact < 2 ^ n
    rounded_fits = subst (λ p. p < 2 ^ n) nearest_from_floor (nearest_finite n es wide x).fits
