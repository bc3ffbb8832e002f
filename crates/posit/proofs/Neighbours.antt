-- Neighbouring patterns are neighbouring signed integers, so no posit lies between their values; the pattern 2U + 1 lies between 2U and 2W one bit
-- wider, so its value lies strictly between theirs.
use Rattle.std.proofs.Common.{◌≡◌, ℕ, zero, suc, ◌+◌, ◌-◌, ◌*◌, ◌^◌, ◌≤◌, ◌⊎◌, pos, ◌+ℤ◌, neg_ℤ, ◌≤ℤ◌, ◌<ℤ◌, sym, refl, ap, inl, inr, lt_irrefl, arith}
use lib.IntN.{+ℤ_one}
use lib.Signed.{≤ℤ_refl}
use Rattle.exact.specs.Fraction.{◌<ᶠ◌, ◌≤ᶠ◌, negᶠ}
use Rattle.exact.proofs.WholeOrder.{<ℤ_iff_suc, ≤ℤ_or_<ℤ}
use Rattle.exact.proofs.Order.{≈_sym, ≈_<ᶠ, <ᶠ_≈}
use Rattle.posit.specs.Format.{Finite, negated}
use Rattle.posit.specs.Value.{value, signed}
use Rattle.posit.specs.Rounding.{middle}
use Rattle.posit.proofs.Mirror.{Side, below, above, side, signed_below, signed_above, negated_middle, value_negated}
use Rattle.posit.proofs.Wider.{finite_wider, finite_between, value_wider}
use Rattle.posit.proofs.Increasing.{value_lt, value_le}

-- ---- neighbours
one_up : (a : ℕ) → neg_ℤ (pos a) ≡ neg_ℤ (pos (suc a)) +ℤ pos 1
one_up zero = refl
one_up (suc a) = sym (+ℤ_one (neg_ℤ (pos (suc (suc a)))))

module _ (n : ℕ) {U W : ℕ} (f : Finite n U) (g : Finite n W) (e : W ≡ U + 1) where
  pub signed_next : signed n W ≡ signed n U +ℤ pos 1
  signed_next = by_sides (side f) (side g)
    where
      by_sides : Side n U → Side n W → signed n W ≡ signed n U +ℤ pos 1
      by_sides (below h) (below l) = rw (signed_below n h, signed_below n l) (ap pos e)
      by_sides (below h) (above l v) = absurd (lt_irrefl 0 (omega arith))
      by_sides (above h u) (below l) = absurd (lt_irrefl 0 (omega arith))
      by_sides (above h u) (above l v) =
          let s : 2 ^ n - U ≡ suc (2 ^ n - W) = omega arith in
          rw (signed_above n h, signed_above n l, s) (one_up (2 ^ n - W))

  pub next_increases : (es : ℕ) → 1 ≤ n → value n es U <ᶠ value n es W
  next_increases es k = (value_lt n es k f g).1 (<ℤ_iff_suc.1 (rw signed_next (≤ℤ_refl (signed n U +ℤ pos 1))))

  -- a posit is at most the lower or at least the upper
  pub none_between : (es : ℕ) → 1 ≤ n → {p : ℕ} → Finite n p → (value n es p ≤ᶠ value n es U) ⊎ (value n es W ≤ᶠ value n es p)
  none_between es k {p} o = by_order (≤ℤ_or_<ℤ (signed n p) (signed n U))
    where
      by_order : (signed n p ≤ℤ signed n U) ⊎ (signed n U <ℤ signed n p) → (value n es p ≤ᶠ value n es U) ⊎ (value n es W ≤ᶠ value n es p)
      by_order (inl h) = inl ((value_le n es k o f).1 h)
      by_order (inr h) = inr ((value_le n es k g o).1 (rw signed_next (<ℤ_iff_suc.0 h)))

-- ---- the middle
module _ (n es : ℕ) (k : 2 ≤ n) {U W : ℕ} (f : Finite n U) (g : Finite n W) (e : W ≡ U + 1) where
  pub middle_finite : Finite (n + 1) (2 * U + 1)
  middle_finite = finite_between n U (omega arith) f.fits

  pub middle_above_lower : value n es U <ᶠ middle n es U
  middle_above_lower =
      ≈_<ᶠ (≈_sym (value_wider n es U k f)) (next_increases (n + 1) (finite_wider n U (omega arith) f) middle_finite refl es (omega arith))

  pub middle_below_upper : middle n es U <ᶠ value n es W
  middle_below_upper =
      <ᶠ_≈ (next_increases (n + 1) middle_finite (finite_wider n W (omega arith) g) (omega arith) es (omega arith)) (value_wider n es W k g)

  -- the middle of the negated neighbours is the negative of the middle
  pub middle_negated : middle n es (negated n W) ≡ negᶠ (middle n es U)
  middle_negated = rw (negated_middle n U g.fits e) at (value_negated (n + 1) es (omega arith) middle_finite)
