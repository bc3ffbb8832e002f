-- The search finds the lower neighbour: it is right because values increase with their patterns, so that the first pattern from above
-- whose value is at most x is the only one with x below the next.
use Rattle.std.proofs.Common.{◌≡◌, ℕ, zero, suc, ◌+◌, ◌<◌, ◌≤◌, Bool, true, false, not, T, zero-le, le_refl, add-one, arith}
use native.Mathlib.Decide.{dec_lt, ℕ_discrete}
use Rattle.exact.specs.Fraction.{Fraction, ◌<ᶠ◌, ◌≤ᶠ◌, ◌≈◌, leᶠ}
use Rattle.posit.specs.Format.{max_pos}
use Rattle.posit.specs.Value.{value}
use Rattle.posit.specs.Nearest.{floor_up_to}
use Rattle.exact.proofs.Order.{≤ᶠ_trans, ≤ᶠ_refl, ≤ᶠ_≈, ≈_<ᶠ, ≈_sym, clashᶠ, leᶠ_yes, leᶠ_no}
use Rattle.posit.proofs.Patterns.{ordered}

-- u is the largest of the patterns 0 to k whose value is at most x
pub record Floor (n es : ℕ) (x : Fraction) (k u : ℕ) : Type 0 where
  pub at_most : u ≤ k
  pub reached : value n es u ≤ᶠ x
  pub not_next : u < k → x <ᶠ value n es (u + 1)

module _ (n es : ℕ) (x : Fraction) (start : value n es 0 ≤ᶠ x) where
  step : (k u : ℕ) → x <ᶠ value n es (suc k) → Floor n es x k u → Floor n es x (suc k) u
  step k u h f = record { at_most = omega (arith, f.at_most); reached = f.reached; not_next = λ l. by l (ℕ_discrete u k) }
    where
      by : u < suc k → Dec (u ≡ k) → x <ᶠ value n es (u + 1)
      by l (yes e) = rw (e, add-one) h
      by l (no e) = f.not_next (omega arith)

  pub floor_found : (k : ℕ) → Floor n es x k (floor_up_to n es x k)
  unfolding floor_up_to
  floor_found zero = record { at_most = zero-le; reached = start; not_next = λ l. absurd (omega arith) }
  floor_found (suc k) = by (leᶠ (value n es (suc k)) x) (λ t. leᶠ_yes t) (λ t. leᶠ_no t) (floor_found k)
    where
      by : (b : Bool) → (T b → value n es (suc k) ≤ᶠ x) → (T (not b) → x <ᶠ value n es (suc k)) → Floor n es x k (floor_up_to n es x k) →
          Floor n es x (suc k) (elim b [ true ↦ suc k | false ↦ floor_up_to n es x k ])
      by true f g r = record { at_most = le_refl (suc k); reached = f tt; not_next = λ l. absurd (omega arith) }
      by false f g r = step k (floor_up_to n es x k) (g tt) r

module _ (n es : ℕ) (wide : 3 ≤ n) where
  -- a larger number has no smaller floor, so a number has one floor
  pub floor_ordered : {x y : Fraction} {k u v : ℕ} → k ≤ max_pos n → x ≤ᶠ y → Floor n es x k u → Floor n es y k v → u ≤ v
  floor_ordered {x} {y} {k} {u} {v} small h f g = by (dec_lt v u)
    where
      by : Dec (v < u) → u ≤ v
      by (no l) = omega arith
      by (yes l) =
          clashᶠ (g.not_next (omega (arith, f.at_most)))
          (≤ᶠ_trans (ordered n es wide {p = v + 1} {q = u} (omega arith) (omega (arith, f.at_most))) (≤ᶠ_trans f.reached h))

  pub one_floor : {x : Fraction} {k u v : ℕ} → k ≤ max_pos n → Floor n es x k u → Floor n es x k v → u ≡ v
  one_floor {x} {k} {u} {v} small f g = omega (arith, floor_ordered small (≤ᶠ_refl x) f g, floor_ordered small (≤ᶠ_refl x) g f)

-- equal numbers have the same floor
pub floor_respects : {n es : ℕ} {x y : Fraction} {k u : ℕ} → x ≈ y → Floor n es x k u → Floor n es y k u
floor_respects q f = record { at_most = f.at_most; reached = ≤ᶠ_≈ f.reached q; not_next = λ l. ≈_<ᶠ (≈_sym q) (f.not_next l) }
