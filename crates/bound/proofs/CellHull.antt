-- Bounds and extents through their cells: equal bounds have one cell, a hull has the least and the greatest cell, and negation turns them round.
use mathlib.Core.Path.{◌≡◌}
use mathlib.Core.Logic.{◌⊎◌, inl, inr}
use Prim.Native.Nat.{◌≤◌, min, max}
use native.Mathlib.Nat.{le_antisymm}
use native.Mathlib.Omega.{arith}
use Rattle.bound.specs.Order.{Order, Same, dual}
use Rattle.bound.specs.Bound.{Bound, SameBound}
use Rattle.bound.specs.Hull.{Covers, compare_bounds, wider}
use Rattle.bound.specs.Extent.{Extent, empty, span, hull}
use Rattle.bound.specs.Cell.{Grid, cell, start_cell_in, end_cell_in, low_cell_in, high_cell_in, turn_grid}
use Rattle.bound.proofs.Bound.{covers_of_same}
use Rattle.bound.proofs.Cell.{one_cell, cell_is_cell, cell_is}
use Rattle.bound.proofs.CellBound.{start_bounded, not_before_start, start_is_reached}
use Rattle.bound.proofs.CellEnd.{end_turned, end_bounded}

module _ {O : Order} (G : Grid O) where
  pub same_number_same_cell : {x y : O.Number} → Same O x y → cell G x ≡ cell G y
  same_number_same_cell {x} {y} s = one_cell (cell_is_cell G x) (cell_is_cell G y) s

  -- a wider bound does not start later
  covers_starts : {b c : Bound O.Number} → Covers O b c → start_cell_in G b ≤ start_cell_in G c
  covers_starts {b} {c} k = let (y, h, p) = start_is_reached G c in omega (arith, not_before_start G b y (k.covers y h), cell_is G p)

  -- an equal bound starts at the same cell
  pub same_start_cell : (b c : Bound O.Number) → SameBound O b c → start_cell_in G b ≡ start_cell_in G c
  same_start_cell b c s = let (h, k) = covers_of_same O b c s in le_antisymm (covers_starts h) (covers_starts k)

  pub wider_start_cell : (b c : Bound O.Number) → start_cell_in G (wider O b c) ≡ min (start_cell_in G b) (start_cell_in G c)
  unfolding wider
  wider_start_cell b c = go (compare_bounds O b c)
    where
      go : (d : Covers O b c ⊎ Covers O c b) → start_cell_in G (elim d [ inl h ↦ b | inr h ↦ c ]) ≡ min (start_cell_in G b) (start_cell_in G c)
      go (inl h) = omega (arith, covers_starts h)
      go (inr h) = omega (arith, covers_starts h)

module _ {O : Order} (G : Grid O) where
  pub same_end_cell : (b c : Bound O.Number) → SameBound (dual O) b c → end_cell_in G b ≡ end_cell_in G c
  same_end_cell b c s = omega (arith, same_start_cell (turn_grid G) b c s, end_turned G b, end_turned G c, end_bounded G b, end_bounded G c)

  pub wider_end_cell : (b c : Bound O.Number) → end_cell_in G (wider (dual O) b c) ≡ max (end_cell_in G b) (end_cell_in G c)
  wider_end_cell b c =
      let w = wider (dual O) b c in
      omega (arith, wider_start_cell (turn_grid G) b c, end_turned G b, end_turned G c, end_turned G w, end_bounded G b, end_bounded G c, end_bounded G w)

  -- the cells of a hull, with an empty part or not
  pub hull_low_cell : (u v : Extent O.Number) → low_cell_in G (hull O u v) ≡ min (low_cell_in G u) (low_cell_in G v)
  unfolding hull
  hull_low_cell empty empty = omega arith
  hull_low_cell empty (span t f) = omega (arith, start_bounded G t)
  hull_low_cell (span s e) empty = omega (arith, start_bounded G s)
  hull_low_cell (span s e) (span t f) = wider_start_cell G s t

  pub hull_high_cell : (u v : Extent O.Number) → high_cell_in G (hull O u v) ≡ max (high_cell_in G u) (high_cell_in G v)
  unfolding hull
  hull_high_cell empty empty = omega arith
  hull_high_cell empty (span t f) = omega arith
  hull_high_cell (span s e) empty = omega arith
  hull_high_cell (span s e) (span t f) = wider_end_cell e f
