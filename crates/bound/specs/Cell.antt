-- Cells over a finite increasing family of values, such as the posits of a format. With n values there are 2n + 1 cells:
-- 2k + 1 is the k-th value alone, and the even cells are the open gaps below, between and above the values.
use Rattle.std.specs.Prelude.{◌↔◌, ℕ, zero, suc, ◌+◌, ◌*◌, ◌-◌, ◌/◌, ◌≤◌, ◌<◌}
use Rattle.std.proofs.Common.{arith}
use Rattle.bound.specs.Order.{Order, Less, dual}
use Rattle.bound.specs.Extent.{Extent, empty, span}
use Rattle.bound.specs.Bound.{Bound, none, closed_at, open_at, map_bound}

pub record Grid (O : Order) : Type 0 where
  pub count : ℕ
  pub value : ℕ → O.Number
  pub increasing : (j k : ℕ) → j < k → k < count → Less O (value j) (value k)

-- c is the cell of the number x
pub record Cell {O : Order} (G : Grid O) (x : O.Number) (c : ℕ) : Type 0 where
  pub bounded : c ≤ 2 * G.count
  pub from_value : (k : ℕ) → k < G.count → O.◌≼◌ (G.value k) x ↔ 2 * k + 1 ≤ c
  pub to_value : (k : ℕ) → k < G.count → O.◌≼◌ x (G.value k) ↔ c ≤ 2 * k + 1

-- the cell among the first n values
module _ (O : Order) where
  unfoldable pub cell_among : (ℕ → O.Number) → ℕ → O.Number → ℕ
  cell_among v zero x = 0
  cell_among v (suc n) x =
      elim (O.decide (v n) x)
      [ yes h ↦ elim (O.decide x (v n)) [ yes k ↦ 2 * n + 1 | no k ↦ 2 * n + 2 ] | no h ↦ cell_among v n x ]

unfoldable pub cell : {O : Order} → Grid O → O.Number → ℕ
unfolding cell_among
cell {O} G x = cell_among O G.value G.count x

-- ---- the outermost cell that a bound allows, from the cell of its number: beside an open bound on a value it is the gap next to it
abbrev pub start_of_bound : Bound ℕ → ℕ
start_of_bound none = 0
start_of_bound (closed_at c) = c
start_of_bound (open_at c) = 2 * ((c + 1) / 2)

abbrev pub end_of_bound : ℕ → Bound ℕ → ℕ
end_of_bound n none = 2 * n
end_of_bound n (closed_at c) = c
end_of_bound n (open_at c) = 2 * (c / 2)

abbrev pub start_cell_in : {O : Order} → Grid O → Bound O.Number → ℕ
start_cell_in G b = start_of_bound (map_bound (cell G) b)

abbrev pub end_cell_in : {O : Order} → Grid O → Bound O.Number → ℕ
end_cell_in G b = end_of_bound G.count (map_bound (cell G) b)

-- the same values over the dual order
abbrev pub turn_grid : {O : Order} → Grid O → Grid (dual O)
turn_grid G =
    record {
      count = G.count;
      value = λ k. G.value (G.count - suc k);
      increasing = λ j k l i. G.increasing (G.count - suc k) (G.count - suc j) (omega arith) (omega arith);
    }

-- x lies in the interval of cells from lo to hi; it is empty where lo is above hi
pub record InCells {O : Order} (G : Grid O) (lo hi : ℕ) (x : O.Number) : Type 0 where
  pub from_low : lo ≤ cell G x
  pub to_high : cell G x ≤ hi

-- the smallest interval of cells that holds the set S: it lies inside every other that does
pub record Smallest {O : Order} (G : Grid O) (S : O.Number → Type 0) (lo hi : ℕ) : Type 0 where
  pub holds : (x : O.Number) → S x → InCells G lo hi x
  pub inside : (lo' hi' : ℕ) → ((x : O.Number) → S x → InCells G lo' hi' x) → (x : O.Number) → InCells G lo hi x → InCells G lo' hi' x

-- the interval of cells of an extent; that of the empty one is empty, and adds nothing to a least and a greatest cell
abbrev pub low_cell_in : {O : Order} → Grid O → Extent O.Number → ℕ
low_cell_in G empty = 2 * G.count + 1
low_cell_in G (span s e) = start_cell_in G s

abbrev pub high_cell_in : {O : Order} → Grid O → Extent O.Number → ℕ
high_cell_in G empty = 0
high_cell_in G (span s e) = end_cell_in G e
