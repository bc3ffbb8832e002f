-- Rounding commutes with negation: it is right because each sentence of the rule is turned into one of its sentences, with the neighbours exchanged.
use Rattle.std.proofs.Common.{◌≡◌, ℕ, ◌%◌, ◌≤◌, ◌⊎◌, pos, sym, ap, ◌∙◌, subst, inl, inr, arith}
use Rattle.exact.specs.Fraction.{Fraction, ◌<ᶠ◌, ◌≈◌, whole, negᶠ}
use Rattle.exact.proofs.Order.{<ᶠ_trans}
use Rattle.exact.proofs.Sum.{negᶠ_<ᶠ, negᶠ_cong}
use Rattle.posit.specs.Format.{Finite, max_pos, negated}
use Rattle.posit.specs.Value.{value}
use Rattle.posit.specs.Rounding.{Between, Rounds, zero_gives_zero, posit_gives_itself, beyond_max_pos, within_min_pos, below_the_middle, above_the_middle, on_the_middle, middle}
use Rattle.posit.proofs.Ends.{value_positive, min_pos_finite, max_pos_finite}
use Rattle.posit.proofs.Neighbours.{middle_negated}
use Rattle.posit.proofs.Patterns.{some_bit, two_bits, nar_large, below_nar, negated_neighbours}
use Rattle.posit.proofs.Mirror.{negated_zero, negated_finite, negated_parity, value_negated}
use Rattle.posit.proofs.Signs.{size_negated, sign_negated}
use Rattle.posit.proofs.RoundAbove.{lower_above}

module _ (n es : ℕ) (wide : 3 ≤ n) where
  module _ {x : Fraction} where
    mirrored_below : {p : ℕ} → Finite n p → x <ᶠ value n es p → value n es (negated n p) <ᶠ negᶠ x
    mirrored_below {p} f h = subst (λ v. v <ᶠ negᶠ x) (sym (value_negated n es (some_bit n wide) f)) (negᶠ_<ᶠ h)

    mirrored_above : {p : ℕ} → Finite n p → value n es p <ᶠ x → negᶠ x <ᶠ value n es (negated n p)
    mirrored_above {p} f h = subst (λ v. negᶠ x <ᶠ v) (sym (value_negated n es (some_bit n wide) f)) (negᶠ_<ᶠ h)

    between_negated : {u w : ℕ} → Between n es x u w → Between n es (negᶠ x) (negated n w) (negated n u)
    between_negated {u} {w} b = record {
      lower_finite = negated_finite (some_bit n wide) b.upper_finite;
      upper_finite = negated_finite (some_bit n wide) b.lower_finite;
      neighbours = negated_neighbours n wide (lower_above n es wide b) b.neighbours b.upper_finite.fits;
      above_lower = mirrored_below b.upper_finite b.below_upper;
      below_upper = mirrored_above b.lower_finite b.above_lower;
      not_tiny = rw (size_negated x) b.not_tiny;
    }

    mirrored : {u w : ℕ} → Between n es x u w → middle n es (negated n w) ≡ negᶠ (middle n es u)
    mirrored b = middle_negated n es (two_bits n wide) b.lower_finite b.upper_finite b.neighbours

    pub rounds_negated : {p : ℕ} → Rounds n es x p → Rounds n es (negᶠ x) (negated n p)
    rounds_negated {p} (zero_gives_zero e r) = zero_gives_zero (negᶠ_cong e) (ap (negated n) r ∙ negated_zero n)
    rounds_negated {p} (posit_gives_itself f e) =
        posit_gives_itself (negated_finite (some_bit n wide) f) (subst (λ v. negᶠ x ≈ v) (sym (value_negated n es (some_bit n wide) f)) (negᶠ_cong e))
    rounds_negated {p} (beyond_max_pos h r) =
        beyond_max_pos (rw (size_negated x) h) (ap (negated n) r ∙ sym (sign_negated n x (max_pos_finite n (two_bits n wide)).fits (<ᶠ_trans above_zero h)))
      where
        above_zero : whole (pos 0) <ᶠ value n es (max_pos n)
        above_zero = value_positive n es (omega (arith, nar_large n wide)) (below_nar n wide (omega arith))
    rounds_negated {p} (within_min_pos z h r) =
        within_min_pos (rw (size_negated x) z) (rw (size_negated x) h) (ap (negated n) r ∙ sym (sign_negated n x (min_pos_finite n (two_bits n wide)).fits z))
    rounds_negated {p} (below_the_middle b h r) = above_the_middle (between_negated b) (subst (λ v. v <ᶠ negᶠ x) (sym (mirrored b)) (negᶠ_<ᶠ h)) (ap (negated n) r)
    rounds_negated {p} (above_the_middle b h r) = below_the_middle (between_negated b) (subst (λ v. negᶠ x <ᶠ v) (sym (mirrored b)) (negᶠ_<ᶠ h)) (ap (negated n) r)
    rounds_negated {p} (on_the_middle {U = u} {W = w} b h r e) =
        on_the_middle (between_negated b) (subst (λ v. negᶠ x ≈ v) (sym (mirrored b)) (negᶠ_cong h)) (by r).0 (by r).1
      where
        by : (p ≡ u) ⊎ (p ≡ w) → ((negated n p ≡ negated n w) ⊎ (negated n p ≡ negated n u)) × (negated n p % 2 ≡ 0)
        by (inl q) = (inr (ap (negated n) q), negated_parity n (some_bit n wide) (rw q b.lower_finite.fits) ∙ e)
        by (inr q) = (inl (ap (negated n) q), negated_parity n (some_bit n wide) (rw q b.upper_finite.fits) ∙ e)
