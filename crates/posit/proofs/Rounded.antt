-- The computed posit is a rounding of x: it is right because above 0 it is the choice at the floor, below 0 the mirror image of that, and 0 for 0.
use Rattle.std.proofs.Common.{ℕ, ◌≤◌, sym, ap, ◌∙◌, subst, subst₂}
use Rattle.exact.specs.Fraction.{Fraction}
use Rattle.exact.proofs.Order.{≈_<ᶠ, ≤ᶠ_of_<ᶠ}
use Rattle.posit.specs.Format.{max_pos, negated}
use Rattle.posit.specs.Nearest.{nearest, nearest_above, floor_up_to}
use Rattle.posit.specs.Rounding.{Rounds, zero_gives_zero}
use Rattle.posit.proofs.Ends.{value_zero}
use Rattle.posit.proofs.Signs.{Above, Sign, nought, over, under, sign_of, negᶠ_twice}
use Rattle.posit.proofs.Floor.{Floor, floor_found}
use Rattle.posit.proofs.Choice.{choice_made}
use Rattle.posit.proofs.RoundAbove.{rounds_of_choice}
use Rattle.posit.proofs.RoundMirror.{rounds_negated}

module _ (n es : ℕ) (wide : 3 ≤ n) where
  pub floor_here : {x : Fraction} → Above x → Floor n es x (max_pos n) (floor_up_to n es x (max_pos n))
  floor_here {x} A = floor_found n es x (≤ᶠ_of_<ᶠ (≈_<ᶠ (value_zero n es) A.positive)) (max_pos n)

  rounded_above : {x : Fraction} → Above x → Rounds n es x (nearest_above n es x)
  unfolding nearest_above
  rounded_above {x} A = rounds_of_choice n es wide x A (floor_here A) (choice_made n es wide x (floor_up_to n es x (max_pos n)) (floor_here A).at_most)

  pub rounded : (x : Fraction) → Rounds n es x (nearest n es x)
  rounded x = by (sign_of x)
    where
      by : Sign x → Rounds n es x (nearest n es x)
      by (nought z s c) = zero_gives_zero z (c n es)
      by (over A) = subst (λ p. Rounds n es x p) (sym (A.computed n es)) (rounded_above A)
      by (under A c) =
          subst₂ (λ y p. Rounds n es y p) (negᶠ_twice x) (ap (negated n) (sym (A.computed n es)) ∙ sym (c n es)) (rounds_negated n es wide (rounded_above A))
