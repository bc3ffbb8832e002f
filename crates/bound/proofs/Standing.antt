-- An end that stands where demand 3 has it lets in every result, and no end that lets in every result stands further in.
use Prim.Native.Nat.{ℕ, ◌≤◌, ◌<◌}
use native.Mathlib.Decide.{dec_le}
use native.Mathlib.Omega.{arith}
use Rattle.bound.specs.Order.{Order, dual}
use Rattle.bound.specs.Bound.{Bound, none, closed_at, open_at, map_bound, Allows}
use Rattle.bound.specs.Cell.{Grid}
use Rattle.bound.specs.End.{OnGrid, Stands, closed_on_bound, open_on_bound, open_beyond_bound, unbounded_beyond, unbounded}
use Rattle.bound.proofs.Placing.{Placing, placed, allowed_iff_placed}
use Rattle.bound.proofs.End.{from_below, from_above}

module _ {O : Order} {n : ℕ} {v : ℕ → O.Number} {p : ℕ → ℕ} {at : O.Number → ℕ} (P : Placing O n v p at) where
  -- values keep their order
  in_order : (j k : ℕ) → j < n → k < n → O.◌≼◌ (v j) (v k) → p j ≤ p k
  in_order j k h i l = omega (arith, (P.from_value (v k) j h).0 l, (P.to_value (v k) k i).0 (O.reflexive (v k)))

  back_in_order : (j k : ℕ) → j < n → k < n → p j ≤ p k → O.◌≼◌ (v j) (v k)
  back_in_order j k h i l = (P.to_value (v j) k i).1 (omega (arith, (P.to_value (v j) j h).0 (O.reflexive (v j))))

module _ {O : Order} {n : ℕ} {v : ℕ → O.Number} {S : O.Number → Type 0} where
  pub lets_in_all : {b : Bound ℕ} → Stands O n v S b → (x : O.Number) → S x → Allows O (map_bound v b) x
  lets_in_all (closed_on_bound g y m s) x k = g.none_below k
  lets_in_all (open_on_bound g away) x k = λ l. away x k (l, g.none_below k)
  lets_in_all (open_beyond_bound a g none_on_it less first away) x k = λ l. less (O.transitive (g.none_below k) l)
  lets_in_all (unbounded_beyond a g beyond) x k = tt
  lets_in_all (unbounded h) x k = tt

  module _ {p : ℕ → ℕ} {at : O.Number → ℕ} (P : Placing O n v p at) where
    -- a value that no result lies below is not further in than the end
    value_not_further : {b : Bound ℕ} → Stands O n v S b → OnGrid n b → (j : ℕ) → j < n → ((x : O.Number) → S x → O.◌≼◌ (v j) x) → p j ≤ placed p b
    value_not_further (closed_on_bound {k} g y m s) i j h all = in_order P j k h i (g.greatest (v j) all)
    value_not_further (open_on_bound {k} g away) i j h all = omega (arith, in_order P j k h i (g.greatest (v j) all))
    value_not_further (open_beyond_bound {k} a g none_on_it less first away) i j h all =
        let l = g.greatest (v j) all in
        omega (arith, in_order P j k h i (first j h (λ t. none_on_it j h (l, t))))
    value_not_further (unbounded_beyond a g beyond) i j h all = absurd (beyond j h (g.greatest (v j) all))
    value_not_further (unbounded none_below) i j h all = absurd (none_below (v j) all)

    -- an open end on that value, which no result lies on, is not further in either
    open_not_further : {b : Bound ℕ} → Stands O n v S b → OnGrid n b → (j : ℕ) → j < n → ((x : O.Number) → S x → ¬ O.◌≼◌ x (v j)) → p j ≤ placed p b → p j < placed p b
    open_not_further (closed_on_bound {k} g y m s) i j h all l =
        elim (dec_le (p k) (p j)) [ yes t ↦ absurd (all y m (O.transitive s.0 (back_in_order P k j i h t))) | no t ↦ omega arith ]
    open_not_further (open_on_bound {k} g away) i j h all l = omega (arith, P.odd j h, P.odd k i)
    open_not_further (open_beyond_bound {k} a g none_on_it less first away) i j h all l = omega (arith, P.odd j h, P.odd k i)
    open_not_further (unbounded_beyond a g beyond) i j h all l = omega (arith, P.odd j h)
    open_not_further (unbounded none_below) i j h all l = omega (arith, P.odd j h)

    not_further : {b : Bound ℕ} → Stands O n v S b → OnGrid n b → (c : Bound ℕ) → OnGrid n c → ((x : O.Number) → S x → Allows O (map_bound v c) x) → placed p c ≤ placed p b
    not_further s i none h all = omega arith
    not_further s i (closed_at j) h all = value_not_further s i j h all
    not_further s i (open_at j) h all =
        omega (arith, open_not_further s i j h all (value_not_further s i j h (λ x k. O.total (all x k))))

    narrowest : {b : Bound ℕ} → Stands O n v S b → OnGrid n b → (c : Bound ℕ) → OnGrid n c → ((x : O.Number) → S x → Allows O (map_bound v c) x)
        → (x : O.Number) → Allows O (map_bound v b) x → Allows O (map_bound v c) x
    narrowest {b} s i c h all x k = (allowed_iff_placed P c h x).1 (omega (arith, not_further s i c h all, (allowed_iff_placed P b i x).0 k))

-- ---- the same of the starts and of the ends on a grid
module _ {O : Order} (G : Grid O) {S : O.Number → Type 0} where
  pub narrowest_start : {b : Bound ℕ} → Stands O G.count G.value S b → OnGrid G.count b → (c : Bound ℕ) → OnGrid G.count c
      → ((x : O.Number) → S x → Allows O (map_bound G.value c) x) → (x : O.Number) → Allows O (map_bound G.value b) x → Allows O (map_bound G.value c) x
  narrowest_start = narrowest (from_below G)

  pub narrowest_end : {b : Bound ℕ} → Stands (dual O) G.count G.value S b → OnGrid G.count b → (c : Bound ℕ) → OnGrid G.count c
      → ((x : O.Number) → S x → Allows (dual O) (map_bound G.value c) x) → (x : O.Number) → Allows (dual O) (map_bound G.value b) x → Allows (dual O) (map_bound G.value c) x
  narrowest_end = narrowest (from_above G)
