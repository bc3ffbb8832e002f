-- From exact bounds to cells: the outermost cell that a bound allows is the outermost cell of the set whose exact bound it is.
use mathlib.Core.Path.{◌≡◌}
use Prim.Native.Nat.{ℕ, ◌+◌, ◌*◌, ◌/◌, ◌≤◌, ◌<◌}
use native.Mathlib.Nat.{le_antisymm}
use native.Mathlib.Decide.{dec_le}
use native.Mathlib.Omega.{arith}
use Rattle.bound.specs.Order.{Order, Less}
use Rattle.bound.specs.Bound.{Bound, none, closed_at, open_at, Allows, Exact}
use Rattle.bound.specs.Cell.{Grid, Cell, cell, start_cell_in}
use Rattle.bound.proofs.Cell.{monotone, value_order, gap_cell, cell_is_cell}

module _ {O : Order} (G : Grid O) where
  -- ---- above x there is a number of its own gap, or of the gap next to its value
  pub room_above : (x : O.Number) (c : ℕ) → Cell G x c → (y : O.Number) × Less O x y × Cell G y (2 * ((c + 1) / 2))
  room_above x c p = go (dec_le G.count ((c + 1) / 2))
    where
      low : (y : O.Number) → Less O x y → (j : ℕ) → j < (c + 1) / 2 → Less O (G.value j) y
      low y h j l m = h (O.transitive m ((p.from_value j (omega (arith, p.bounded))).1 (omega arith)))

      go : Dec (G.count ≤ (c + 1) / 2) → (y : O.Number) × Less O x y × Cell G y (2 * ((c + 1) / 2))
      go (yes h) =
          let (y, l) = O.higher x in
          (y, l, gap_cell G ((c + 1) / 2) (omega (arith, p.bounded)) (low y l) (λ j i m. absurd (omega arith)))
      go (no h) =
          let (y, l, m) = O.between {x = x} {y = G.value ((c + 1) / 2)} (λ t. omega (arith, (p.from_value ((c + 1) / 2) (omega arith)).0 t)) in
          (y, l, gap_cell G ((c + 1) / 2) (omega arith) (low y l) (λ j i n t. m (O.transitive ((value_order G ((c + 1) / 2) j (omega arith) n).1 i) t)))

  -- below all values there is a number
  pub below_all : (y : O.Number) × Cell G y 0
  below_all = go (dec_le G.count 0)
    where
      go : Dec (G.count ≤ 0) → (y : O.Number) × Cell G y 0
      go (yes h) = (O.some_number, gap_cell G 0 (omega arith) (λ j l. absurd (omega arith)) (λ j i m. absurd (omega arith)))
      go (no h) =
          let (y, l) = O.lower (G.value 0) in
          (y, gap_cell G 0 (omega arith) (λ j k. absurd (omega arith)) (λ j i m t. l (O.transitive ((value_order G 0 j (omega arith) m).1 i) t)))

  pub start_bounded : (b : Bound O.Number) → start_cell_in G b ≤ 2 * G.count
  start_bounded none = omega arith
  start_bounded (closed_at a) = (cell_is_cell G a).bounded
  start_bounded (open_at a) = omega (arith, (cell_is_cell G a).bounded)

  -- ---- a bound allows no cell before its start cell, and something in it
  pub not_before_start : (b : Bound O.Number) (x : O.Number) → Allows O b x → start_cell_in G b ≤ cell G x
  not_before_start none x h = omega arith
  not_before_start (closed_at a) x h = monotone (cell_is_cell G a) (cell_is_cell G x) h
  not_before_start (open_at a) x h = go (cell G a) (cell G x) (cell_is_cell G a) (cell_is_cell G x)
    where
      go : (d c : ℕ) → Cell G a d → Cell G x c → 2 * ((d + 1) / 2) ≤ c
      go d c p q =
          elim (dec_le (2 * ((d + 1) / 2)) c) [
            | yes l ↦ l
            | no l ↦
                let m : d ≤ c = monotone p q (O.total h) in
                let i : d / 2 < G.count = omega (arith, p.bounded) in
                absurd (h (O.transitive ((q.to_value (d / 2) i).1 (omega arith)) ((p.from_value (d / 2) i).1 (omega arith))))
          ]

  pub start_is_reached : (b : Bound O.Number) → (y : O.Number) × Allows O b y × Cell G y (start_cell_in G b)
  start_is_reached none = let (y, p) = below_all in (y, tt, p)
  start_is_reached (closed_at a) = (a, O.reflexive a, cell_is_cell G a)
  start_is_reached (open_at a) = room_above a (cell G a) (cell_is_cell G a)

  -- ---- so the start cell of the exact bound is the first cell of the set
  pub first_cell : {S : O.Number → Type 0} {b : Bound O.Number} → Exact O S b → (x : O.Number) × S x × cell G x ≡ start_cell_in G b
  first_cell {b} e =
      let (y, h, p) = start_is_reached b in
      let (x, m, l) = e.reached y h in
      (x, m, le_antisymm (monotone (cell_is_cell G x) p l) (not_before_start b x (e.allowed m)))
