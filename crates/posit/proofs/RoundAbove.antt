-- Rounding a number above 0 is the choice at its floor: it is right because each sentence of the rule names the floor and its side of the middle,
-- and each choice at the floor is one of the rule's sentences.
use Rattle.std.proofs.Common.{◌≡◌, ℕ, ◌+◌, ◌%◌, ◌<◌, ◌≤◌, ◌⊎◌, pos, sym, refl, ap, ◌∙◌, subst, inl, inr, zero-le, le_refl, arith}
use native.Mathlib.Decide.{ℕ_discrete}
use Rattle.exact.specs.Fraction.{Fraction, ◌<ᶠ◌, ◌≤ᶠ◌, ◌≈◌, whole}
use Rattle.posit.specs.Format.{Finite, max_pos, min_pos}
use Rattle.posit.specs.Value.{value}
use Rattle.posit.specs.Rounding.{Between, Rounds, zero_gives_zero, posit_gives_itself, beyond_max_pos, within_min_pos, below_the_middle, above_the_middle, on_the_middle}
use Rattle.exact.proofs.Order.{≤ᶠ_trans, <ᶠ_trans, ≤ᶠ_of_<ᶠ, ≤ᶠ_of_≈, ≈_sym, ≤ᶠ_antisymm, ≤ᶠ_or_<ᶠ, <ᶠ_≈, ≈_<ᶠ, clashᶠ}
use Rattle.posit.proofs.Signs.{Above, above_of}
use Rattle.posit.proofs.Mirror.{Side, below, above, side}
use Rattle.posit.proofs.Ends.{value_zero, value_negative}
use Rattle.posit.proofs.Patterns.{some_bit, nar_large, small_finite, increasing, ordered, below_middle}
use Rattle.posit.proofs.Floor.{Floor}
use Rattle.posit.proofs.Choice.{Choice, smallest, largest, lower, upper, even}

-- x has a floor, and p is a choice there
pub record Placed (n es : ℕ) (x : Fraction) (p : ℕ) : Type 0 where
  pub floor : ℕ
  pub is_floor : Floor n es x (max_pos n) floor
  pub is_choice : Choice n es x floor p

-- at least is above or equal
pub split_le : {x y : Fraction} → x ≤ᶠ y → (x <ᶠ y) ⊎ (x ≈ y)
split_le {x} {y} h = by (≤ᶠ_or_<ᶠ y x)
  where
    by : (y ≤ᶠ x) ⊎ (x <ᶠ y) → (x <ᶠ y) ⊎ (x ≈ y)
    by (inl k) = inr (≤ᶠ_antisymm h k)
    by (inr k) = inl k

module _ (n es : ℕ) (wide : 3 ≤ n) where
  -- a finite pattern whose value is above 0
  pub positive_pattern : {x : Fraction} {p : ℕ} → whole (pos 0) <ᶠ x → Finite n p → x ≤ᶠ value n es p → (0 < p) × (p ≤ max_pos n)
  positive_pattern {x} {p} z f h = by (side f) (ℕ_discrete p 0)
    where
      by : Side n p → Dec (p ≡ 0) → (0 < p) × (p ≤ max_pos n)
      by (above l u) e = clashᶠ z (≤ᶠ_trans h (≤ᶠ_of_<ᶠ (value_negative n es (some_bit n wide) l u)))
      by (below l) (no e) = (omega arith, omega arith)
      by (below l) (yes e) = clashᶠ z (≤ᶠ_trans h (rw e (≤ᶠ_of_≈ (value_zero n es))))

  -- the lower neighbour is not 0: between 0 and minPos a number is too small
  pub lower_above : {x : Fraction} {u w : ℕ} → Between n es x u w → 0 < u
  lower_above {x} {u} {w} b = by (ℕ_discrete u 0)
    where
      by : Dec (u ≡ 0) → 0 < u
      by (no e) = omega arith
      by (yes e) = clashᶠ (subst (λ k. x <ᶠ value n es k) (b.neighbours ∙ ap (λ k. k + 1) e) b.below_upper) (rw A.own_size at b.not_tiny)
        where
          A : Above x
          A = above_of (≈_<ᶠ (≈_sym (value_zero n es)) (subst (λ k. value n es k <ᶠ x) e b.above_lower))

  module _ (x : Fraction) (A : Above x) where
    -- a choice at the floor is a sentence of the rule
    between : {u : ℕ} → 0 < u → u < max_pos n → value n es u <ᶠ x → x <ᶠ value n es (u + 1) → Between n es x u (u + 1)
    between {u} h k l r = record {
      lower_finite = small_finite n wide (omega arith);
      upper_finite = small_finite n wide (omega arith);
      neighbours = refl;
      above_lower = l;
      below_upper = r;
      not_tiny = rw A.own_size (≤ᶠ_trans (ordered n es wide {p = 1} {q = u} (omega arith) (omega arith)) (≤ᶠ_of_<ᶠ l));
    }

    itself : {u p : ℕ} → u ≤ max_pos n → p ≡ u → value n es u ≈ x → Rounds n es x p
    itself {u} {p} h r e = posit_gives_itself (rw r (small_finite n wide h)) (subst (λ k. x ≈ value n es k) (sym r) (≈_sym e))

    pub rounds_of_choice : {u p : ℕ} → Floor n es x (max_pos n) u → Choice n es x u p → Rounds n es x p
    rounds_of_choice {u} {p} f (smallest e r) =
        within_min_pos (rw A.own_size A.positive)
        (rw A.own_size (subst (λ k. x <ᶠ value n es (k + 1)) e (f.not_next (omega (arith, nar_large n wide)))))
        (r ∙ sym (A.no_sign n min_pos))
    rounds_of_choice {u} {p} f (largest e r) = by (split_le f.reached)
      where
        by : (value n es u <ᶠ x) ⊎ (value n es u ≈ x) → Rounds n es x p
        by (inl l) = beyond_max_pos (rw A.own_size (subst (λ k. value n es k <ᶠ x) e l)) (r ∙ e ∙ sym (A.no_sign n (max_pos n)))
        by (inr q) = itself f.at_most r q
    rounds_of_choice {u} {p} f (lower h k c r) = by (split_le f.reached)
      where
        by : (value n es u <ᶠ x) ⊎ (value n es u ≈ x) → Rounds n es x p
        by (inl l) = below_the_middle (between h k l (f.not_next k)) c r
        by (inr q) = itself f.at_most r q
    rounds_of_choice {u} {p} f (upper h k c r) = above_the_middle (between h k (<ᶠ_trans (below_middle n es wide k) c) (f.not_next k)) c r
    rounds_of_choice {u} {p} f (even h k c r) =
        on_the_middle (between h k (<ᶠ_≈ (below_middle n es wide k) (≈_sym c)) (f.not_next k)) c (by (ℕ_discrete (u % 2) 0)) (omega arith)
      where
        by : Dec (u % 2 ≡ 0) → (p ≡ u) ⊎ (p ≡ u + 1)
        by (yes z) = inl (omega arith)
        by (no z) = inr (omega arith)

    -- between neighbours, the lower one is the floor
    inside : {u w : ℕ} → Between n es x u w → (0 < u) × (u < max_pos n) × Floor n es x (max_pos n) u
    inside {u} {w} b = (lower_above b, not_last, record { at_most = omega (arith, not_last); reached = ≤ᶠ_of_<ᶠ b.above_lower; not_next = λ l. next })
      where
        next : x <ᶠ value n es (u + 1)
        next = subst (λ k. x <ᶠ value n es k) b.neighbours b.below_upper

        not_last : u < max_pos n
        not_last = omega (arith, positive_pattern A.positive b.upper_finite (≤ᶠ_of_<ᶠ b.below_upper), b.neighbours)

    -- a sentence of the rule is a choice at a floor
    pub choice_of_rounds : {p : ℕ} → Rounds n es x p → Placed n es x p
    choice_of_rounds {p} (zero_gives_zero e r) = clashᶠ A.positive (≤ᶠ_of_≈ e)
    choice_of_rounds {p} (posit_gives_itself f e) =
        record { floor = p; is_floor = record { at_most = small.1; reached = ≤ᶠ_of_≈ (≈_sym e); not_next = λ l. next l }; is_choice = by (ℕ_discrete p (max_pos n)) }
      where
        small : (0 < p) × (p ≤ max_pos n)
        small = positive_pattern A.positive f (≤ᶠ_of_≈ e)

        next : p < max_pos n → x <ᶠ value n es (p + 1)
        next l = ≈_<ᶠ e (increasing n es wide (omega arith) (omega arith))

        by : Dec (p ≡ max_pos n) → Choice n es x p p
        by (yes q) = largest q refl
        by (no q) = lower small.0 (omega (arith, small.1)) (≈_<ᶠ e (below_middle n es wide (omega (arith, small.1)))) refl
    choice_of_rounds {p} (beyond_max_pos h r) =
        record {
          floor = max_pos n;
          is_floor = record { at_most = le_refl (max_pos n); reached = ≤ᶠ_of_<ᶠ (rw A.own_size at h); not_next = λ l. absurd (omega arith) };
          is_choice = largest refl (r ∙ A.no_sign n (max_pos n));
        }
    choice_of_rounds {p} (within_min_pos z h r) =
        record {
          floor = 0;
          is_floor = record { at_most = zero-le; reached = ≤ᶠ_of_<ᶠ (≈_<ᶠ (value_zero n es) A.positive); not_next = λ l. rw A.own_size at h };
          is_choice = smallest refl (r ∙ A.no_sign n min_pos);
        }
    choice_of_rounds {p} (below_the_middle {U = u} b h r) = let i = inside b in record { floor = u; is_floor = i.2; is_choice = lower i.0 i.1 h r }
    choice_of_rounds {p} (above_the_middle {U = u} b h r) = let i = inside b in record { floor = u; is_floor = i.2; is_choice = upper i.0 i.1 h (r ∙ b.neighbours) }
    choice_of_rounds {p} (on_the_middle {U = u} {W = w} b h r e) = let i = inside b in record { floor = u; is_floor = i.2; is_choice = even i.0 i.1 h (by r) }
      where
        by : (p ≡ u) ⊎ (p ≡ w) → p ≡ u + u % 2
        by (inl q) = omega arith
        by (inr q) = omega (arith, b.neighbours)
