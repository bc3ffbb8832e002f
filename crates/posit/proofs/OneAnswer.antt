-- Exactly one posit is the rounding of an exact value, and it is the computed one: it is right because a number above 0 has one floor and one choice there,
-- a number below 0 is the mirror image of one above, and 0 is rounded to 0 alone.
use Rattle.std.proofs.Common.{◌≡◌, ℕ, ◌<◌, ◌≤◌, ℤ, pos, negsuc, ◌<ℤ◌, sym, ap, ◌∙◌, subst₂, inl, inr, le_refl, arith}
use native.Mathlib.Decide.{ℕ_discrete}
use Rattle.exact.specs.Fraction.{Fraction, ◌≈◌, whole, negᶠ}
use Rattle.exact.proofs.Order.{≈_refl, ≈_sym, ≈_trans, <ᶠ_≈, ≤ᶠ_≈, ≤ᶠ_of_≈, ≤ᶠ_of_<ᶠ, clashᶠ}
use Rattle.exact.proofs.Sum.{negᶠ_cong}
use Rattle.posit.specs.Format.{Finite, max_pos, negated}
use Rattle.posit.specs.Value.{value}
use Rattle.posit.specs.Nearest.{nearest, nearest_above, chosen}
use Rattle.posit.specs.Rounding.{Between, Rounds, zero_gives_zero, posit_gives_itself, beyond_max_pos, within_min_pos, below_the_middle, above_the_middle, on_the_middle, size, with_sign_of}
use Rattle.posit.proofs.Ends.{value_positive, value_negative, min_pos_finite, max_pos_finite}
use Rattle.posit.proofs.Patterns.{some_bit, two_bits, nar_large, below_nar, small_finite}
use Rattle.posit.proofs.Mirror.{Side, below, above, side, negated_zero, negated_finite, negated_negated}
use Rattle.posit.proofs.Signs.{Above, Sign, nought, over, under, sign_of, above_of, negᶠ_twice}
use Rattle.posit.proofs.Floor.{one_floor, floor_respects}
use Rattle.posit.proofs.Choice.{choice_computed, choice_range, choice_respects}
use Rattle.posit.proofs.RoundAbove.{rounds_of_choice, choice_of_rounds}
use Rattle.posit.proofs.RoundMirror.{rounds_negated}
use Rattle.posit.proofs.Rounded.{floor_here, rounded}

-- ---- the answer is finite
sign_finite : (n : ℕ) → 3 ≤ n → (x : Fraction) {q : ℕ} → Finite n q → Finite n (with_sign_of n x q)
sign_finite n wide x {q} f = by x.num x.den x.above
  where
    by : (a d : ℤ) (h : pos 0 <ℤ d) → Finite n (with_sign_of n (record { num = a; den = d; above = h }) q)
    by (pos a) d h = f
    by (negsuc a) d h = negated_finite (some_bit n wide) f

module _ (n es : ℕ) (wide : 3 ≤ n) where
  pub rounded_finite : {x : Fraction} {p : ℕ} → Rounds n es x p → Finite n p
  rounded_finite {x} {p} (zero_gives_zero e r) = rw r (small_finite n wide {p = 0} (omega arith))
  rounded_finite {x} {p} (posit_gives_itself f e) = f
  rounded_finite {x} {p} (beyond_max_pos h r) = rw r (sign_finite n wide x (max_pos_finite n (two_bits n wide)))
  rounded_finite {x} {p} (within_min_pos z h r) = rw r (sign_finite n wide x (min_pos_finite n (two_bits n wide)))
  rounded_finite {x} {p} (below_the_middle b h r) = rw r b.lower_finite
  rounded_finite {x} {p} (above_the_middle b h r) = rw r b.upper_finite
  rounded_finite {x} {p} (on_the_middle b h (inl r) e) = rw r b.lower_finite
  rounded_finite {x} {p} (on_the_middle b h (inr r) e) = rw r b.upper_finite

  -- ---- above 0
  one_above : {x : Fraction} {p : ℕ} → Above x → Rounds n es x p → p ≡ nearest_above n es x
  unfolding nearest_above
  one_above {x} A r =
      let c = choice_of_rounds n es wide x A r in
      choice_computed n es wide x c.floor c.is_choice ∙ ap (chosen n es x) (one_floor n es wide (le_refl (max_pos n)) c.is_floor (floor_here n es wide A))

  -- ---- 0
  not_tiny_at_zero : {x : Fraction} {u w : ℕ} → x ≈ whole (pos 0) → size x ≡ x → Between n es x u w → ⊥
  not_tiny_at_zero {x} z s b = clashᶠ (value_positive n es {p = 1} (omega arith) (omega (arith, nar_large n wide))) (≤ᶠ_≈ (rw s at b.not_tiny) z)

  one_at_zero : {x : Fraction} {p : ℕ} → x ≈ whole (pos 0) → size x ≡ x → Rounds n es x p → p ≡ 0
  one_at_zero {x} {p} z s (zero_gives_zero e r) = r
  one_at_zero {x} {p} z s (posit_gives_itself f e) = by (side f) (ℕ_discrete p 0)
    where
      by : Side n p → Dec (p ≡ 0) → p ≡ 0
      by l (yes q) = q
      by (below l) (no q) = clashᶠ (value_positive n es {p = p} (omega arith) l) (≤ᶠ_of_≈ (≈_trans (≈_sym e) z))
      by (above l u) (no q) = clashᶠ (value_negative n es (some_bit n wide) l u) (≤ᶠ_of_≈ (≈_trans (≈_sym z) e))
  one_at_zero {x} {p} z s (beyond_max_pos h r) = clashᶠ (<ᶠ_≈ (rw s at h) z) (≤ᶠ_of_<ᶠ (value_positive n es (omega (arith, nar_large n wide)) (below_nar n wide (omega arith))))
  one_at_zero {x} {p} z s (within_min_pos l h r) = clashᶠ (rw s at l) (≤ᶠ_of_≈ z)
  one_at_zero {x} {p} z s (below_the_middle b h r) = absurd (not_tiny_at_zero z s b)
  one_at_zero {x} {p} z s (above_the_middle b h r) = absurd (not_tiny_at_zero z s b)
  one_at_zero {x} {p} z s (on_the_middle b h r e) = absurd (not_tiny_at_zero z s b)

  -- ---- any sign
  pub one_answer : {x : Fraction} {p : ℕ} → Rounds n es x p → p ≡ nearest n es x
  one_answer {x} {p} r = by (sign_of x)
    where
      by : Sign x → p ≡ nearest n es x
      by (nought z s c) = one_at_zero z s r ∙ sym (c n es)
      by (over A) = one_above A r ∙ sym (A.computed n es)
      by (under A c) =
          sym (negated_negated n (rounded_finite r).fits)
          ∙ ap (negated n) (one_above A (rounds_negated n es wide r) ∙ sym (A.computed n es))
          ∙ sym (c n es)

  pub same_answer : {x : Fraction} {p q : ℕ} → Rounds n es x p → Rounds n es x q → p ≡ q
  same_answer r s = one_answer r ∙ sym (one_answer s)

  -- the theorem: some posit is the rounding of x, and every rounding of x is that one
  pub exactly_one : (x : Fraction) → (p : ℕ) × Rounds n es x p × ((q : ℕ) → Rounds n es x q → q ≡ p)
  exactly_one x = (nearest n es x, rounded n es wide x, λ q r. one_answer r)

  -- above 0 the answer lies from minPos to maxPos, and only 0 is rounded to 0
  pub range_above : {x : Fraction} {p : ℕ} → Above x → Rounds n es x p → (0 < p) × (p ≤ max_pos n)
  range_above {x} A r = let c = choice_of_rounds n es wide x A r in choice_range n es wide x c.is_floor.at_most c.is_choice

  pub zero_only : {x : Fraction} → Rounds n es x 0 → x ≈ whole (pos 0)
  zero_only {x} r = by (sign_of x)
    where
      by : Sign x → x ≈ whole (pos 0)
      by (nought z s c) = z
      by (over A) = absurd (omega (arith, range_above A r))
      by (under A c) = absurd (omega (arith, range_above A (rounds_negated n es wide r), negated_zero n))

  -- ---- equal numbers are rounded alike
  respects_above : {x y : Fraction} {p : ℕ} → Above x → x ≈ y → Rounds n es x p → Rounds n es y p
  respects_above {x} {y} A e r =
      let c = choice_of_rounds n es wide x A r in
      rounds_of_choice n es wide y (above_of (<ᶠ_≈ A.positive e)) (floor_respects e c.is_floor) (choice_respects e c.is_choice)

  pub rounds_respects : {x y : Fraction} {p : ℕ} → x ≈ y → Rounds n es x p → Rounds n es y p
  rounds_respects {x} {y} {p} e r = by (sign_of x)
    where
      by : Sign x → Rounds n es y p
      by (nought z s c) = zero_gives_zero (≈_trans (≈_sym e) z) (one_at_zero z s r)
      by (over A) = respects_above A e r
      by (under A c) =
          subst₂ (λ v q. Rounds n es v q) (negᶠ_twice y) (negated_negated n (rounded_finite r).fits)
          (rounds_negated n es wide (respects_above A (negᶠ_cong e) (rounds_negated n es wide r)))

  pub nearest_respects : {x y : Fraction} → x ≈ y → nearest n es x ≡ nearest n es y
  nearest_respects {x} {y} e = one_answer (rounds_respects e (rounded n es wide x))

  pub nearest_finite : (x : Fraction) → Finite n (nearest n es x)
  nearest_finite x = rounded_finite (rounded n es wide x)

  pub nearest_negated : (x : Fraction) → nearest n es (negᶠ x) ≡ negated n (nearest n es x)
  nearest_negated x = sym (one_answer (rounds_negated n es wide (rounded n es wide x)))

  pub nearest_value : {p : ℕ} → Finite n p → nearest n es (value n es p) ≡ p
  nearest_value {p} f = sym (one_answer (posit_gives_itself f (≈_refl (value n es p))))
