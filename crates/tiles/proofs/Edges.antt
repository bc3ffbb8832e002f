-- A tile above 0 stands for the same limit as the cell of a range that starts or ends there, so that the tiles of two operands decide the tiles of their results.
use Rattle.std.proofs.Common.{◌≡◌, ℕ, ◌+◌, ◌-◌, ◌*◌, ◌/◌, ◌%◌, ◌^◌, ◌<◌, ◌≤◌, Bool, true, false, ◌&&◌, eqb, ◌≢◌, ◌⊎◌, sym, refl, inl, inr, arith}
use borrow.Author.Tests.{eq-eqb, ne_eqb}
use native.Mathlib.Decide.{dec_lt}
use Rattle.exact.proofs.Powers.{parity}
use Rattle.posit.specs.Parts.{chosen_by}
use Rattle.word.specs.Spans.{top_cell, cells_of}
use Rattle.cell.specs.Cells.{result_cell}
use Rattle.signs.specs.declared.inner.edge.Edge.{Edge}
use Rattle.signs.specs.Signs.{pick_cell, start_edge, end_edge, first_edge, last_edge, first_cell, last_cell}
use Rattle.tiles.specs.Plain.{open_zero, PlainStart, PlainEnd, is_plain}
use Rattle.tiles.specs.Scaled.{first_tile, last_tile, edge_at}
use Rattle.tiles.proofs.PlainCells.{first_of, last_of, plain_tiles, plain_start, plain_end, plain_cells, start_posit_is, end_posit_is, start_mark_is, end_mark_is, last_there}

same_edge : {x y : Edge} → x.unlimited ≡ y.unlimited → x.closed ≡ y.closed → x.posit ≡ y.posit → x ≡ y
same_edge e f g = λ i. record { unlimited = e i; closed = f i; posit = g i }

-- a cell has the mark that its tile has not
same_mark : (c t : ℕ) → c % 2 ≡ 1 - t % 2 → eqb (c % 2) 1 ≡ eqb (t % 2) 0
same_mark c t e = by (parity t)
  where
    by : (t % 2 ≡ 0) ⊎ (t % 2 ≡ 1) → eqb (c % 2) 1 ≡ eqb (t % 2) 0
    by (inl f) = rw (e, f) refl
    by (inr f) = rw (e, f) refl

module _ (n : ℕ) (wide : 3 ≤ n) where
  pub start_edge_at : {s : ℕ} → PlainStart n s → start_edge n (first_of n s) ≡ edge_at s
  start_edge_at {s} p = same_edge (by (dec_lt open_zero s)) (same_mark (first_of n s) s (start_mark_is n wide p)) (sym (start_posit_is n wide p))
    where
      by : Dec (open_zero < s) → eqb (first_of n s) (2 ^ n) ≡ eqb s open_zero
      by (yes l) = rw (ne_eqb (first_of n s) (2 ^ n) (λ e. omega arith), ne_eqb s open_zero (λ e. omega arith)) refl
      by (no h) = rw (eq-eqb (first_of n s) (2 ^ n) (omega (arith, p)), eq-eqb s open_zero (omega (arith, p))) refl

  pub end_edge_at : {t : ℕ} → PlainEnd n t → end_edge n (last_of n t) ≡ edge_at t
  end_edge_at {t} p =
      same_edge
      (rw (ne_eqb (last_of n t) (top_cell n) (λ e. omega (arith, last_there n wide p)), ne_eqb t open_zero (λ e. omega (arith, p))) refl)
      (same_mark (last_of n t) t (end_mark_is n wide p)) (sym (end_posit_is n wide p))

  -- ---- the right word's edges
  module _ (w : ℕ) (h : is_plain n w ≡ true) where
    pub first_edge_at : (divide : Bool) → first_edge n divide (cells_of n w) ≡ edge_at (first_tile n divide w)
    first_edge_at true = rw (plain_cells n w wide h) (end_edge_at (plain_end (plain_tiles n w h)))
    first_edge_at false = rw (plain_cells n w wide h) (start_edge_at (plain_start (plain_tiles n w h)))

    pub last_edge_at : (divide : Bool) → last_edge n divide (cells_of n w) ≡ edge_at (last_tile n divide w)
    last_edge_at true = rw (plain_cells n w wide h) (start_edge_at (plain_start (plain_tiles n w h)))
    last_edge_at false = rw (plain_cells n w wide h) (end_edge_at (plain_end (plain_tiles n w h)))

pub last_start : (n w : ℕ) → is_plain n w ≡ true → (divide : Bool) → PlainStart n (last_tile n divide w)
last_start n w h true = plain_start (plain_tiles n w h)
last_start n w h false = let p = plain_end (plain_tiles n w h) in record { above = omega (arith, p); below = p.below }

-- ---- the cells of the results at two limits
-- the product of two marks chooses as both tests do
by_marks : (s t x y : ℕ) → chosen_by ((1 - s % 2) * (1 - t % 2)) x y ≡ pick_cell (eqb (s % 2) 0 && eqb (t % 2) 0) y x
by_marks s t x y = by (parity s) (parity t)
  where
    by : (s % 2 ≡ 0) ⊎ (s % 2 ≡ 1) → (t % 2 ≡ 0) ⊎ (t % 2 ≡ 1) → chosen_by ((1 - s % 2) * (1 - t % 2)) x y ≡ pick_cell (eqb (s % 2) 0 && eqb (t % 2) 0) y x
    by (inl f) (inl g) = rw (f, g) refl
    by (inl f) (inr g) = rw (f, g) refl
    by (inr f) (inl g) = rw (f, g) refl
    by (inr f) (inr g) = rw (f, g) refl

module _ (n es : ℕ) (divide : Bool) (s t : ℕ) (i : s ≢ open_zero) (j : t ≢ open_zero) {r : ℕ} (e : r ≡ result_cell n es divide (s / 2) (t / 2)) where
  pub first_at : chosen_by ((1 - s % 2) * (1 - t % 2)) (2 * ((r + 1) / 2)) r ≡ first_cell n es divide (edge_at s) (edge_at t)
  first_at = rw (ne_eqb s open_zero i, ne_eqb t open_zero j, ← e) (by_marks s t (2 * ((r + 1) / 2)) r)

  pub last_at : chosen_by ((1 - s % 2) * (1 - t % 2)) (2 * (r / 2)) r ≡ last_cell n es divide (edge_at s) (edge_at t)
  last_at = rw (ne_eqb s open_zero i, ne_eqb t open_zero j, ← e) (by_marks s t (2 * (r / 2)) r)
