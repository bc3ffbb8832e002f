-- The ends, from the starts over the dual order: there the cells are counted from the other side.
use mathlib.Core.Path.{◌≡◌, refl}
use Prim.Native.Nat.{ℕ, zero, suc, ◌+◌, ◌*◌, ◌-◌, ◌/◌, ◌%◌, ◌≤◌}
use native.Mathlib.Decide.{dec_le}
use native.Mathlib.Omega.{arith}
use Rattle.bound.specs.Order.{Order, dual}
use Rattle.bound.specs.Bound.{Bound, none, closed_at, open_at, Allows, Exact}
use Rattle.bound.specs.Cell.{Grid, Cell, cell, start_cell_in, end_cell_in, turn_grid}
use Rattle.bound.proofs.Cell.{value_cell, cell_is_cell, cell_is}
use Rattle.bound.proofs.CellBound.{room_above, below_all, not_before_start, first_cell}

module _ {O : Order} (G : Grid O) where
  pub turn_cell : {x : O.Number} {c : ℕ} → Cell G x c → Cell (turn_grid G) x (2 * G.count - c)
  turn_cell {x} {c} p =
      let n = G.count in
      record {
        bounded = omega arith;
        from_value = λ k i.
            (λ h. omega (arith, p.bounded, (p.to_value (n - suc k) (omega arith)).0 h), λ h. (p.to_value (n - suc k) (omega arith)).1 (omega (arith, p.bounded)));
        to_value = λ k i.
            (λ h. omega (arith, p.bounded, (p.from_value (n - suc k) (omega arith)).0 h), λ h. (p.from_value (n - suc k) (omega arith)).1 (omega (arith, p.bounded)));
      }

  pub cell_turned : (x : O.Number) → cell (turn_grid G) x ≡ 2 * G.count - cell G x
  cell_turned x = cell_is (turn_grid G) (turn_cell (cell_is_cell G x))

  pub end_turned : (b : Bound O.Number) → start_cell_in (turn_grid G) b ≡ 2 * G.count - end_cell_in G b
  end_turned none = omega arith
  end_turned (closed_at a) = cell_turned a
  end_turned (open_at a) = omega (arith, cell_turned a, (cell_is_cell G a).bounded)

  pub end_bounded : (b : Bound O.Number) → end_cell_in G b ≤ 2 * G.count
  end_bounded none = omega arith
  end_bounded (closed_at a) = (cell_is_cell G a).bounded
  end_bounded (open_at a) = omega (arith, (cell_is_cell G a).bounded)

  pub not_after_end : (b : Bound O.Number) (x : O.Number) → Allows (dual O) b x → cell G x ≤ end_cell_in G b
  not_after_end b x h =
      omega (arith, not_before_start (turn_grid G) b x h, cell_turned x, end_turned b, end_bounded b, (cell_is_cell G x).bounded)

  pub last_cell : {S : O.Number → Type 0} {b : Bound O.Number} → Exact (dual O) S b → (x : O.Number) × S x × cell G x ≡ end_cell_in G b
  last_cell {b} e =
      let (x, m, p) = first_cell (turn_grid G) e in
      (x, m, omega (arith, p, cell_turned x, end_turned b, end_bounded b, (cell_is_cell G x).bounded))

  -- ---- every cell has a number in it
  next_gap : (x : O.Number) (c : ℕ) → Cell G x c → (y : O.Number) × cell G y ≡ 2 * ((c + 1) / 2)
  next_gap x c p = let (y, l, q) = room_above G x c p in (y, cell_is G {x = y} q)

  pub cell_has_number : (c : ℕ) → c ≤ 2 * G.count → (x : O.Number) × cell G x ≡ c
  cell_has_number c h = go (c % 2) refl (dec_le c 0)
    where
      go : (r : ℕ) → c % 2 ≡ r → Dec (c ≤ 0) → (x : O.Number) × cell G x ≡ c
      go zero e (yes l) = let (x, p) = below_all G in (x, omega (arith, cell_is G {x = x} p))
      go zero e (no l) =
          let k = c / 2 - 1 in
          let (y, q) = next_gap (G.value k) (2 * k + 1) (value_cell G k (omega arith)) in
          (y, omega (arith, q))
      go (suc r) e d = (G.value (c / 2), omega (arith, cell_is G (value_cell G (c / 2) (omega arith))))
