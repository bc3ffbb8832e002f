-- A real word has no closed NaR, since that holds infinity; so its tiles have cells, and it is empty exactly where its first cell is after its last.
use mathlib.Core.Path.{◌≡◌, sym, ap, ◌∙◌}
use mathlib.Core.Bool.{true≢false}
use mathlib.Core.Logic.{◌≢◌, ◌↔◌}
use Prim.Native.Nat.{ℕ, ◌*◌, ◌%◌, ◌≤◌, ◌<◌}
use native.Mathlib.Omega.{arith}
use borrow.Author.Tests.{lt-ltb, le-ltb}
use Rattle.posit.specs.Format.{Format}
use Rattle.word.specs.declared.inner.span.Span.{Span}
use Rattle.word.specs.Word.{words, empty, kind, is_infinite, start_tile, end_tile, closed_nar, open_nar}
use Rattle.word.specs.Member.{Real}
use Rattle.word.specs.Numbered.{count}
use Rattle.word.specs.Spans.{top_cell, start_cell, end_cell, no_cells, between, cells_of, Cells, RealCells}
use Rattle.word.proofs.Places.{Placed, placed, start_tile_of_word, end_tile_of_word, top_cell_says}
use Rattle.word.proofs.WordKinds.{Case, extended, nothing, infinite, kind_case, closed_start_infinite, closed_end_infinite}

-- ---- the cells between two tiles
pub between_some : (n s e : ℕ) → start_cell n s ≤ end_cell n e → between n s e ≡ record { lo = start_cell n s; hi = end_cell n e }
between_some n s e l = rw (le-ltb (end_cell n e) (start_cell n s) l)

pub between_none : (n s e : ℕ) → end_cell n e < start_cell n s → between n s e ≡ no_cells n
between_none n s e l = rw (lt-ltb (end_cell n e) (start_cell n s) l)

-- ---- what a real word is: it has a first and a last cell, or it is empty
pub data RealCase (n w : ℕ) : Type 0 where
  has_cells :
      kind n w ≢ empty → start_cell n (start_tile n w) ≤ end_cell n (end_tile n w)
      → cells_of n w ≡ record { lo = start_cell n (start_tile n w); hi = end_cell n (end_tile n w) } → RealCase n w
  has_none :
      kind n w ≡ empty → start_tile n w ≡ end_tile n w → start_tile n w % 2 ≡ 1 → start_tile n w ≢ open_nar n
      → end_cell n (end_tile n w) < start_cell n (start_tile n w) → cells_of n w ≡ no_cells n → RealCase n w

module _ (n : ℕ) (wide : 3 ≤ n) {w : ℕ} (r : Real n w) where
  pub start_not_nar : start_tile n w ≢ closed_nar n
  start_not_nar e = true≢false (sym (closed_start_infinite n w e) ∙ r.no_infinity)

  pub end_not_nar : end_tile n w ≢ closed_nar n
  end_not_nar e = true≢false (sym (closed_end_infinite n w e) ∙ r.no_infinity)

  pub start_placed : Placed n (start_tile n w)
  start_placed = placed n wide (start_tile_of_word n wide r.fits) start_not_nar

  pub end_placed : Placed n (end_tile n w)
  end_placed = placed n wide (end_tile_of_word n wide w) end_not_nar

  pub real_case : RealCase n w
  real_case = go (kind_case n wide (start_tile_of_word n wide r.fits) (end_tile_of_word n wide w) start_not_nar end_not_nar)
    where
      go : Case n (start_tile n w) (end_tile n w) → RealCase n w
      go (extended f e l) = has_cells e l (between_some n (start_tile n w) (end_tile n w) l)
      go (nothing t e m o l) = has_none t e m o l (between_none n (start_tile n w) (end_tile n w) l)
      go (infinite t e l) = absurd (true≢false (sym t ∙ r.no_infinity))

  -- the cells of a real word are cells of the format
  pub cells_there : Cells n (cells_of n w)
  cells_there = go real_case
    where
      go : RealCase n w → Cells n (cells_of n w)
      go (has_cells k l e) = rw e (omega (arith, start_placed.start_cell_fits, end_placed.end_cell_fits))
      go (has_none k i m o l e) = rw e (omega arith)

  -- they have a first and a last one, or there are none
  pub cells_ordered : (cells_of n w).lo ≤ top_cell n → (cells_of n w).lo ≤ (cells_of n w).hi
  cells_ordered = go real_case
    where
      go : RealCase n w → (cells_of n w).lo ≤ top_cell n → (cells_of n w).lo ≤ (cells_of n w).hi
      go (has_cells k l e) = rw e (λ h. l)
      go (has_none k i m o l e) = rw e (λ h. absurd (omega (arith, h)))

  none_at_all : (cells_of n w).hi < (cells_of n w).lo → cells_of n w ≡ no_cells n
  none_at_all = go real_case
    where
      go : RealCase n w → (cells_of n w).hi < (cells_of n w).lo → cells_of n w ≡ no_cells n
      go (has_cells k l e) h = absurd (omega (arith, l, rw e at h))
      go (has_none k i m o l e) h = e

  pub real_cells : RealCells n (cells_of n w)
  real_cells = record { there = cells_there; ordered = cells_ordered; none = none_at_all }

  pub high_there : (cells_of n w).hi ≤ 2 * count n
  high_there = omega (arith, cells_there.high_there, top_cell_says n wide)

pub cells_at_hand : {n es w : ℕ} → Format n es → Real n w → {x : Span} → x ≡ cells_of n w → Cells n x
cells_at_hand {n} f r e = rw e (cells_there n f.wide_enough r)

pub real_cells_at_hand : {n es w : ℕ} → Format n es → Real n w → {x : Span} → x ≡ cells_of n w → RealCells n x
real_cells_at_hand {n} f r e = rw e (real_cells n f.wide_enough r)

-- ---- the empty words
module _ (n : ℕ) (wide : 3 ≤ n) where
  pub kind_empty : (w : ℕ) → w < words n → (kind n w ≡ empty) ↔ (Real n w × ((cells_of n w).hi < (cells_of n w).lo))
  kind_empty w h = (λ k. let r : Real n w = record { fits = h; no_infinity = ap is_infinite k } in (r, forth k (real_case n wide r)), λ k. back k (real_case n wide k.0))
    where
      forth : kind n w ≡ empty → RealCase n w → (cells_of n w).hi < (cells_of n w).lo
      forth k (has_cells o l e) = absurd (o k)
      forth k (has_none t i m o l e) = rw e (omega arith)

      back : Real n w × ((cells_of n w).hi < (cells_of n w).lo) → RealCase n w → kind n w ≡ empty
      back k (has_cells o l e) = absurd (omega (arith, rw e at k.1))
      back k (has_none t i m o l e) = t
