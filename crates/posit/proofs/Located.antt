-- Rounding from the floor one bit wider: it is right because that floor, cut by its last bit, is the floor of the format, and its last bit with
-- whether it was met exactly says on which side of the middle the number lies.
use Rattle.std.proofs.Common.{◌≡◌, ℕ, ◌+◌, ◌*◌, ◌/◌, ◌%◌, ◌<◌, ◌≤◌, sym, refl, subst, arith}
use Rattle.exact.specs.Fraction.{Fraction, ◌<ᶠ◌, ◌≤ᶠ◌, ◌≈◌}
use Rattle.exact.proofs.Order.{≤ᶠ_trans, ≈_≤ᶠ, ≈_sym, <ᶠ_≈, <ᶠ_≤ᶠ_trans}
use Rattle.posit.specs.Format.{max_pos, min_pos}
use Rattle.posit.specs.Value.{value}
use Rattle.posit.specs.Rounding.{middle}
use Rattle.posit.specs.Nearest.{nearest}
use Rattle.posit.proofs.Patterns.{some_bit, two_bits, nar_large, small_finite, ordered}
use Rattle.posit.proofs.Mirror.{nar_is_half, nar_wider}
use Rattle.posit.proofs.Wider.{value_wider}
use Rattle.posit.proofs.Signs.{Above}
use Rattle.posit.proofs.Floor.{Floor}
use Rattle.posit.proofs.Choice.{Choice, smallest, largest, lower, upper, even}
use Rattle.posit.proofs.RoundAbove.{rounds_of_choice}
use Rattle.posit.proofs.OneAnswer.{one_answer}

module _ (n es : ℕ) (wide : 3 ≤ n) {x : Fraction} {l : ℕ} (f : Floor (n + 1) es x (max_pos (n + 1)) l) where
  -- maxPos one bit wider
  last : max_pos (n + 1) ≡ 2 * max_pos n + 1
  last = omega (arith, nar_wider n, nar_is_half n (some_bit n wide), nar_large n wide)

  pub floor_cut : Floor n es x (max_pos n) (l / 2)
  floor_cut = record { at_most = omega (arith, last, f.at_most); reached = reached; not_next = next }
    where
      reached : value n es (l / 2) ≤ᶠ x
      reached =
          ≤ᶠ_trans
          (≈_≤ᶠ (≈_sym (value_wider n es (l / 2) (two_bits n wide) (small_finite n wide (omega (arith, last, f.at_most)))))
          (ordered (n + 1) es (omega arith) (omega arith) f.at_most))
          f.reached

      next : l / 2 < max_pos n → x <ᶠ value n es (l / 2 + 1)
      next h =
          <ᶠ_≈
          (<ᶠ_≤ᶠ_trans (f.not_next (omega (arith, last)))
          (ordered (n + 1) es (omega arith) {p = l + 1} {q = 2 * (l / 2 + 1)} (omega arith) (omega (arith, last))))
          (value_wider n es (l / 2 + 1) (two_bits n wide) (small_finite n wide (omega arith)))

  -- ---- the side of the middle
  longer : l % 2 ≡ 1 → l ≡ 2 * (l / 2) + 1
  longer e = omega arith

  below_point : l / 2 < max_pos n → l % 2 ≡ 0 → x <ᶠ middle n es (l / 2)
  below_point h e = subst (λ k. x <ᶠ value (n + 1) es k) next (f.not_next (omega (arith, last)))
    where
      next : l + 1 ≡ 2 * (l / 2) + 1
      next = omega arith

  -- ---- the answer
  module _ (A : Above x) where
    made : {p : ℕ} → Choice n es x (l / 2) p → nearest n es x ≡ p
    made c = sym (one_answer n es wide (rounds_of_choice n es wide x A floor_cut c))

    pub located_none : l / 2 ≡ 0 → nearest n es x ≡ min_pos
    located_none e = made (smallest e refl)

    pub located_last : l / 2 ≡ max_pos n → nearest n es x ≡ l / 2
    located_last e = made (largest e refl)

    module _ (some : 0 < l / 2) (not_last : l / 2 < max_pos n) where
      pub located_lower : l % 2 ≡ 0 → nearest n es x ≡ l / 2
      located_lower e = made (lower some not_last (below_point not_last e) refl)

      pub located_upper : l % 2 ≡ 1 → value (n + 1) es l <ᶠ x → nearest n es x ≡ l / 2 + 1
      located_upper e h = made (upper some not_last (subst (λ k. value (n + 1) es k <ᶠ x) (longer e) h) refl)

      pub located_even : l % 2 ≡ 1 → x ≈ value (n + 1) es l → nearest n es x ≡ l / 2 + l / 2 % 2
      located_even e h = made (even some not_last (subst (λ k. x ≈ value (n + 1) es k) (longer e) h) refl)
