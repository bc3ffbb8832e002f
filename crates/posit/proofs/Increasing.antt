-- On either side of NaR the units are the multiples, which increase, and what is negative is below what is not: the order of the patterns as signed
-- integers is the order of the values.
use Rattle.std.proofs.Common.{◌≡◌, ℕ, zero, suc, ◌-◌, ◌^◌, ◌<◌, ◌≤◌, ◌⊎◌, ◌↔◌, ℤ, pos, neg_ℤ, ◌≤ℤ◌, ◌<ℤ◌, sym, ap, ◌∙◌, inl, inr, lt_irrefl, arith, pow_pos}
use lib.IntN.{neg_ℤ-neg_ℤ}
use lib.Signed.{lt_z_yes, clash_ℤ}
use Rattle.exact.specs.Fraction.{◌<ᶠ◌, ◌≤ᶠ◌, ◌≈◌}
use Rattle.exact.proofs.WholeOrder.{pos_<ℤ, neg_ℤ_<ℤ, ≤ℤ_or_<ℤ, ≤ℤ_of_≡, ≤ℤ_antisymm, pos_inj}
use Rattle.exact.proofs.OverPower.{over_power_<ᶠ, over_power_≤ᶠ, over_power_≈}
use Rattle.posit.specs.Format.{nar, m, Finite}
use Rattle.posit.specs.Value.{multiple, units, value, signed}
use Rattle.posit.proofs.Order.{multiple_lt, multiple_positive}
use Rattle.posit.proofs.Mirror.{Side, below, above, side, nar_is_half, signed_below, signed_above, units_below, units_above}

-- ---- signs
negative_below : {a : ℕ} (c : ℕ) → 0 < a → neg_ℤ (pos a) <ℤ pos c
negative_below {a = zero} c h = absurd (lt_irrefl 0 h)
negative_below {a = suc a} c h = lt_z_yes tt

not_below_negative : {a c : ℕ} → 0 < a → ¬ (pos c <ℤ neg_ℤ (pos a))
not_below_negative {a = zero} h l = absurd (lt_irrefl 0 h)
not_below_negative {a = suc a} h l = l.lt

-- ---- two orders with the same "less" have the same "at most" and "equal"
agree_≤ : {a b c d : ℤ} → (b <ℤ a) ↔ (d <ℤ c) → (a ≤ℤ b) ↔ (c ≤ℤ d)
agree_≤ {a} {b} {c} {d} g = (λ h. forth h (≤ℤ_or_<ℤ c d), λ h. back h (≤ℤ_or_<ℤ a b))
  where
    forth : a ≤ℤ b → (c ≤ℤ d) ⊎ (d <ℤ c) → c ≤ℤ d
    forth h (inl k) = k
    forth h (inr k) = clash_ℤ (g.1 k) h

    back : c ≤ℤ d → (a ≤ℤ b) ⊎ (b <ℤ a) → a ≤ℤ b
    back h (inl k) = k
    back h (inr k) = clash_ℤ (g.0 k) h

agree_≡ : {a b c d : ℤ} → (a <ℤ b) ↔ (c <ℤ d) → (b <ℤ a) ↔ (d <ℤ c) → (a ≡ b) ↔ (c ≡ d)
agree_≡ f g = (
  λ e. ≤ℤ_antisymm ((agree_≤ g).0 (≤ℤ_of_≡ e)) ((agree_≤ f).0 (≤ℤ_of_≡ (sym e))),
  λ e. ≤ℤ_antisymm ((agree_≤ g).1 (≤ℤ_of_≡ e)) ((agree_≤ f).1 (≤ℤ_of_≡ (sym e))),
)

-- ---- patterns and units
module _ (n es : ℕ) (k : 1 ≤ n) where
  mirrored : (p : ℕ) → nar n < p → 2 ^ n - p < nar n
  mirrored p h = omega (arith, nar_is_half n k, pow_pos (n - 1))

  negative : (p : ℕ) → nar n < p → p < 2 ^ n → 0 < multiple (n - 1) es (2 ^ n - p)
  negative p h u = multiple_positive (n - 1) es (omega arith) (mirrored p h)

  by_sides : {p q : ℕ} → Side n p → Side n q → (signed n p <ℤ signed n q) ↔ (units n es p <ℤ units n es q)
  by_sides (below h) (below l) =
      rw (signed_below n h, signed_below n l, units_below n es h, units_below n es l) (simp pos_<ℤ (multiple_lt (n - 1) es h l))
  by_sides {p} {q} (below h) (above l u) =
      rw (signed_below n h, signed_above n l, units_below n es h, units_above n es l u)
      (λ i. absurd (not_below_negative {a = 2 ^ n - q} (omega arith) i), λ i. absurd (not_below_negative (negative q l u) i))
  by_sides {p} {q} (above h u) (below l) =
      rw (signed_above n h, signed_below n l, units_above n es h u, units_below n es l)
      (λ i. negative_below (multiple (n - 1) es q) (negative p h u), λ i. negative_below {a = 2 ^ n - p} q (omega arith))
  by_sides {p} {q} (above h u) (above l v) =
      rw (signed_above n h, signed_above n l, units_above n es h u, units_above n es l v)
      (simp (neg_ℤ_<ℤ, pos_<ℤ) (multiple_lt (n - 1) es (mirrored q l) (mirrored p h)))

  module _ {p q : ℕ} (f : Finite n p) (g : Finite n q) where
    pub units_lt : (signed n p <ℤ signed n q) ↔ (units n es p <ℤ units n es q)
    units_lt = by_sides (side f) (side g)

    pub units_le : (signed n p ≤ℤ signed n q) ↔ (units n es p ≤ℤ units n es q)
    units_le = agree_≤ (by_sides (side g) (side f))

    pub units_same : (signed n p ≡ signed n q) ↔ (units n es p ≡ units n es q)
    units_same = agree_≡ (by_sides (side f) (side g)) (by_sides (side g) (side f))

-- ---- one pattern for each signed integer
pub signed_injective : (n : ℕ) {p q : ℕ} → Finite n p → Finite n q → signed n p ≡ signed n q → p ≡ q
signed_injective n {p} {q} f g e = by_sides_of (side f) (side g)
  where
    by_sides_of : Side n p → Side n q → p ≡ q
    by_sides_of (below h) (below l) = pos_inj (rw (signed_below n h, signed_below n l) at e)
    by_sides_of (below h) (above l v) =
        clash_ℤ (negative_below {a = 2 ^ n - q} p (omega arith)) (≤ℤ_of_≡ (rw (signed_below n h, signed_above n l) at e))
    by_sides_of (above h u) (below l) =
        clash_ℤ (negative_below {a = 2 ^ n - p} q (omega arith)) (≤ℤ_of_≡ (rw (signed_below n l, signed_above n h) at (sym e)))
    by_sides_of (above h u) (above l v) =
        let d : 2 ^ n - p ≡ 2 ^ n - q = pos_inj (sym (neg_ℤ-neg_ℤ _) ∙ ap neg_ℤ (rw (signed_above n h, signed_above n l) at e) ∙ neg_ℤ-neg_ℤ _) in
        omega arith

-- ---- units and values: one power of two stands under both
module _ (n es : ℕ) (k : 1 ≤ n) {p q : ℕ} (f : Finite n p) (g : Finite n q) where
  pub value_lt : (value n es p <ᶠ value n es q) ↔ (signed n p <ℤ signed n q)
  value_lt = (λ h. (units_lt n es k f g).1 ((over_power_<ᶠ (m n es)).0 h), λ h. (over_power_<ᶠ (m n es)).1 ((units_lt n es k f g).0 h))

  pub value_le : (value n es p ≤ᶠ value n es q) ↔ (signed n p ≤ℤ signed n q)
  value_le = (λ h. (units_le n es k f g).1 ((over_power_≤ᶠ (m n es)).0 h), λ h. (over_power_≤ᶠ (m n es)).1 ((units_le n es k f g).0 h))

  pub value_same : (value n es p ≈ value n es q) ↔ (signed n p ≡ signed n q)
  value_same = (λ h. (units_same n es k f g).1 ((over_power_≈ (m n es)).0 h), λ h. (over_power_≈ (m n es)).1 ((units_same n es k f g).0 h))

  pub value_injective : value n es p ≈ value n es q → p ≡ q
  value_injective h = signed_injective n f g (value_same.0 h)
