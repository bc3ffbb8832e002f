-- Rounding keeps order: it is right because a larger number has no smaller floor, at one floor no smaller choice, and below 0 all is the mirror image.
use Rattle.std.proofs.Common.{◌≡◌, ℕ, ◌+◌, ◌-◌, ◌*◌, ◌%◌, ◌^◌, ◌<◌, ◌≤◌, ◌⊎◌, pos, neg_ℤ, ◌≤ℤ◌, refl, ap, ◌∙◌, subst, inl, inr, zero-le, le_refl, eq-zero-or-pos, arith, pow_pos}
use native.Mathlib.Decide.{dec_lt}
use lib.IntN.{neg_ℤ-neg_ℤ}
use lib.Signed.{≤ℤ_refl}
use Rattle.exact.specs.Fraction.{Fraction, ◌<ᶠ◌, ◌≤ᶠ◌, ◌≈◌, whole}
use Rattle.exact.proofs.WholeOrder.{pos_≤ℤ, neg_ℤ_≤ℤ, ≤ℤ_trans}
use Rattle.exact.proofs.Order.{≤ᶠ_or_<ᶠ, <ᶠ_≤ᶠ_trans, ≈_≤ᶠ, ≈_sym}
use Rattle.exact.proofs.Sum.{negᶠ_≤ᶠ}
use Rattle.exact.proofs.Sign.{negᶠ_>0, negᶠ_≥0}
use Rattle.posit.specs.Format.{Finite, nar, max_pos, negated}
use Rattle.posit.specs.Value.{signed}
use Rattle.posit.specs.Rounding.{Rounds, zero_gives_zero, middle}
use Rattle.posit.specs.Nearest.{nearest}
use Rattle.posit.proofs.Patterns.{some_bit, nar_large}
use Rattle.posit.proofs.Mirror.{Side, below, above, side, nar_is_half, negated_zero, negated_positive, signed_below, signed_above}
use Rattle.posit.proofs.Signs.{Above, above_of}
use Rattle.posit.proofs.Floor.{floor_ordered}
use Rattle.posit.proofs.Choice.{Choice, smallest, largest, lower, upper, even, choice_range, choice_near, one_choice}
use Rattle.posit.proofs.RoundAbove.{Placed, choice_of_rounds, split_le}
use Rattle.posit.proofs.RoundMirror.{rounds_negated}
use Rattle.posit.proofs.Rounded.{rounded}
use Rattle.posit.proofs.OneAnswer.{rounded_finite, range_above, same_answer}

-- a negated pattern is the negated signed integer
pub signed_negated : (n : ℕ) {p : ℕ} → 1 ≤ n → Finite n p → signed n (negated n p) ≡ neg_ℤ (signed n p)
signed_negated n {p} k f = by (side f) (eq-zero-or-pos p)
  where
    half : 2 ^ n ≡ 2 * nar n
    half = nar_is_half n k

    back : p < 2 ^ n → 2 ^ n - (2 ^ n - p) ≡ p
    back u = omega arith

    by : Side n p → (p ≡ 0) ⊎ (0 < p) → signed n (negated n p) ≡ neg_ℤ (signed n p)
    by (below h) (inl e) = rw (e, negated_zero n, signed_below n {p = 0} (pow_pos (n - 1)))
    by (above h u) (inl e) = absurd (omega arith)
    by (below h) (inr z) =
        rw (negated_positive n z f.fits, signed_below n h)
        (signed_above n {p = 2 ^ n - p} (omega (arith, half)) ∙ ap (λ (q : ℕ). neg_ℤ (pos q)) (back f.fits))
    by (above h u) (inr z) = rw (negated_positive n z u, signed_above n h, neg_ℤ-neg_ℤ) (signed_below n {p = 2 ^ n - p} (omega (arith, half)))

module _ (n es : ℕ) (wide : 3 ≤ n) where
  -- at one floor, a larger number has no smaller choice
  choice_ordered : {x y : Fraction} {u p q : ℕ} → x ≤ᶠ y → Choice n es x u p → Choice n es y u q → p ≤ q
  choice_ordered {x} {y} {u} {p} {q} l (smallest e r) d = omega (arith, choice_range n es wide y (omega arith) d)
  choice_ordered {x} {y} {u} {p} {q} l (largest e r) d = omega (arith, choice_near n es wide y d)
  choice_ordered {x} {y} {u} {p} {q} l (lower h k c r) d = omega (arith, choice_near n es wide y d)
  choice_ordered {x} {y} {u} {p} {q} l (upper h k c r) d = omega (arith, one_choice n es wide y {p = u + 1} (upper h k (<ᶠ_≤ᶠ_trans c l) refl) d)
  choice_ordered {x} {y} {u} {p} {q} l (even h k c r) d = by (split_le (≈_≤ᶠ (≈_sym c) l))
    where
      by : (middle n es u <ᶠ y) ⊎ (middle n es u ≈ y) → p ≤ q
      by (inl m) = omega (arith, one_choice n es wide y {p = u + 1} (upper h k m refl) d)
      by (inr m) = omega (arith, one_choice n es wide y {p = u + u % 2} (even h k (≈_sym m) refl) d)

  ordered_above : {x y : Fraction} {p q : ℕ} → Above x → x ≤ᶠ y → Rounds n es x p → Rounds n es y q → p ≤ q
  ordered_above {x} {y} {p} {q} A l r s = by (dec_lt c.floor d.floor)
    where
      c : Placed n es x p
      c = choice_of_rounds n es wide x A r

      d : Placed n es y q
      d = choice_of_rounds n es wide y (above_of (<ᶠ_≤ᶠ_trans A.positive l)) s

      floors : c.floor ≤ d.floor
      floors = floor_ordered n es wide (le_refl (max_pos n)) l c.is_floor d.is_floor

      by : Dec (c.floor < d.floor) → p ≤ q
      by (yes h) = omega (arith, choice_near n es wide x c.is_choice, choice_near n es wide y d.is_choice)
      by (no h) = choice_ordered l c.is_choice (subst (λ k. Choice n es y k q) (omega (arith, floors)) d.is_choice)

  -- ---- as signed integers
  signed_above_zero : {x : Fraction} {p : ℕ} → Above x → Rounds n es x p → signed n p ≡ pos p
  signed_above_zero A r = signed_below n (omega (arith, range_above n es wide A r, nar_large n wide))

  signed_above_ordered : {x y : Fraction} {p q : ℕ} → Above x → x ≤ᶠ y → Rounds n es x p → Rounds n es y q → signed n p ≤ℤ signed n q
  signed_above_ordered A l r s =
      rw (signed_above_zero A r, signed_above_zero (above_of (<ᶠ_≤ᶠ_trans A.positive l)) s) (pos_≤ℤ.1 (ordered_above A l r s))

  not_negative : {x : Fraction} {p : ℕ} → whole (pos 0) ≤ᶠ x → Rounds n es x p → pos 0 ≤ℤ signed n p
  not_negative {x} {p} h r = by (split_le h)
    where
      by : (whole (pos 0) <ᶠ x) ⊎ (whole (pos 0) ≈ x) → pos 0 ≤ℤ signed n p
      by (inl l) = rw (signed_above_zero (above_of l) r) (pos_≤ℤ.1 zero-le)
      by (inr e) =
          rw (same_answer n es wide r (zero_gives_zero (≈_sym e) refl), signed_below n {p = 0} (omega (arith, nar_large n wide))) (≤ℤ_refl (pos 0))

  mirrored : {x : Fraction} {p : ℕ} → Rounds n es x p → signed n (negated n p) ≡ neg_ℤ (signed n p)
  mirrored r = signed_negated n (some_bit n wide) (rounded_finite n es wide r)

  pub rounds_ordered : {x y : Fraction} {p q : ℕ} → x ≤ᶠ y → Rounds n es x p → Rounds n es y q → signed n p ≤ℤ signed n q
  rounds_ordered {x} {y} {p} {q} l r s = by (≤ᶠ_or_<ᶠ x (whole (pos 0))) (≤ᶠ_or_<ᶠ (whole (pos 0)) y)
    where
      by : (x ≤ᶠ whole (pos 0)) ⊎ (whole (pos 0) <ᶠ x) → (whole (pos 0) ≤ᶠ y) ⊎ (y <ᶠ whole (pos 0)) → signed n p ≤ℤ signed n q
      by (inr h) k = signed_above_ordered (above_of h) l r s
      by (inl h) (inl k) =
          ≤ℤ_trans ((neg_ℤ_≤ℤ {a = signed n p} {b = pos 0}).0 (rw (mirrored r) at (not_negative (negᶠ_≥0 h) (rounds_negated n es wide r)))) (not_negative k s)
      by (inl h) (inr k) =
          neg_ℤ_≤ℤ.0
          (rw (mirrored r, mirrored s) at (signed_above_ordered (above_of (negᶠ_>0 k)) (negᶠ_≤ᶠ l) (rounds_negated n es wide s) (rounds_negated n es wide r)))

  pub nearest_ordered : {x y : Fraction} → x ≤ᶠ y → signed n (nearest n es x) ≤ℤ signed n (nearest n es y)
  nearest_ordered {x} {y} l = rounds_ordered l (rounded n es wide x) (rounded n es wide y)
