-- The answer for a set of results is the word of the cells that its exact extent reaches: that interval of cells is the smallest, and each end of
-- the word stands at its cell. There is no other answer, since ranges with the same members have the same cells.
use mathlib.Core.Path.{refl, sym, ◌∙◌}
use mathlib.Core.Logic.{◌↔◌}
use Prim.Native.Nat.{ℕ, ◌≤◌}
use native.Mathlib.Omega.{arith}
use Rattle.exact.specs.Fraction.{Fraction}
use Rattle.bound.specs.Bound.{Bound, map_bound, Exact}
use Rattle.bound.specs.Order.{dual}
use Rattle.bound.specs.Extent.{Extent, empty, span, Spans, nothing, exactly}
use Rattle.bound.specs.Cell.{cell, start_cell_in, end_cell_in, low_cell_in, high_cell_in, Smallest as SmallestCells}
use Rattle.bound.specs.Fractions.{fractions}
use Rattle.bound.proofs.CellBound.{start_bounded, first_cell}
use Rattle.bound.proofs.CellEnd.{end_bounded, not_after_end}
use Rattle.bound.proofs.Smallest.{smallest_of_extent}
use Rattle.bound.proofs.End.{start_stands, end_stands}
use Rattle.word.specs.declared.inner.span.Span.{Span}
use Rattle.word.specs.Word.{empty_word, start_of, end_of}
use Rattle.word.specs.Member.{Real, Member}
use Rattle.word.specs.Numbered.{number_of}
use Rattle.word.specs.Spans.{cells_of, no_cells, Cells, word_at}
use Rattle.word.specs.Smallest.{Smallest, IsAnswer}
use Rattle.word.proofs.Grid.{posits}
use Rattle.word.proofs.Places.{top_cell_says}
use Rattle.word.proofs.RealWords.{start_placed, end_placed}
use Rattle.word.proofs.Members.{member_cells}
use Rattle.word.proofs.Comparisons.{in_cells, of_cells}
use Rattle.word.proofs.WordAt.{word_at_none, word_at_real, first_cell_at, last_cell_at, cells_at, empty_word_real, empty_word_cells}

-- the cells that an extent reaches
abbrev pub reach : (n es : ℕ) → 3 ≤ n → Extent Fraction → Span
reach n es wide u = record { lo = low_cell_in (posits n es wide) u; hi = high_cell_in (posits n es wide) u }

module _ (n es : ℕ) (wide : 3 ≤ n) where
  -- ---- the members of the word of an interval of cells
  pub member_at : (s : Span) → Cells n s → s.lo ≤ s.hi → (x : Fraction) → Member n es (word_at n s) x ↔ ((s.lo ≤ cell (posits n es wide) x) × (cell (posits n es wide) x ≤ s.hi))
  member_at s c l x = rw (cells_at n wide s c l) at (member_cells n es wide (word_at_real n wide s c) x)

  pub empty_word_has_none : (x : Fraction) → ¬ Member n es (empty_word n) x
  empty_word_has_none x m =
      let h : ((no_cells n).lo ≤ cell (posits n es wide) x) × (cell (posits n es wide) x ≤ (no_cells n).hi) = rw (empty_word_cells n wide) at ((member_cells n es wide (empty_word_real n wide) x).0 m) in
      absurd (omega (arith, h))

  -- ---- the answer from the exact extent
  module _ {S : Fraction → Type 0} where
    empty_answer : ((x : Fraction) → ¬ S x) → IsAnswer n es S (empty_word n)
    empty_answer h =
        record {
          smallest = record { real = empty_word_real n wide; holds = λ x m. absurd (h x m); inside = λ v r k x m. absurd (empty_word_has_none x m) };
          empty_word_says = λ k. refl;
          start_stands = λ x m. absurd (h x m);
          end_stands = λ x m. absurd (h x m);
        }

    module _ {b d : Bound Fraction} (p : Exact fractions S b) (q : Exact (dual fractions) S d) where
      abbrev here : Span
      here = reach n es wide (span b d)

      cells_reached : Cells n here
      cells_reached = omega (arith, start_bounded (posits n es wide) b, end_bounded (posits n es wide) d, top_cell_says n wide)

      pub ordered : start_cell_in (posits n es wide) b ≤ end_cell_in (posits n es wide) d
      ordered = let (x, m, i) = first_cell (posits n es wide) p in omega (arith, i, not_after_end (posits n es wide) d x (q.allowed m))

      reach_real : Real n (word_at n here)
      reach_real = word_at_real n wide here cells_reached

      reach_smallest : Smallest n es S (word_at n here)
      reach_smallest =
          let least : SmallestCells (posits n es wide) S (start_cell_in (posits n es wide) b) (end_cell_in (posits n es wide) d) = smallest_of_extent (posits n es wide) (exactly p q) in
          let there = member_at here cells_reached ordered in
          record {
            real = reach_real;
            holds = λ x m. let i = least.holds x m in (there x).1 (i.from_low, i.to_high);
            inside = λ v r h x m.
                let (l, k) = (there x).0 m in
                of_cells n es wide r (least.inside (cells_of n v).lo (cells_of n v).hi (λ y i. in_cells n es wide r (h y i)) x (record { from_low = l; to_high = k }));
          }

      reach_answer : IsAnswer n es S (word_at n here)
      reach_answer =
          let s = start_placed n wide reach_real in
          let e = end_placed n wide reach_real in
          record {
            smallest = reach_smallest;
            empty_word_says = λ h. let (x, m, i) = first_cell (posits n es wide) p in absurd (h x m);
            start_stands = λ x m.
                start_stands (posits n es wide) p (map_bound (number_of n) (start_of n (word_at n here))) s.on_grid
                (sym s.start_cell_is ∙ first_cell_at n wide here cells_reached ordered);
            end_stands = λ x m.
                end_stands (posits n es wide) q (map_bound (number_of n) (end_of n (word_at n here))) e.on_grid
                (sym e.end_cell_is ∙ last_cell_at n wide here cells_reached ordered);
          }

    pub answer_of_extent : {u : Extent Fraction} → Spans fractions S u → IsAnswer n es S (word_at n (reach n es wide u))
    answer_of_extent (nothing h) = rw (word_at_none n (reach n es wide empty) (omega arith)) (empty_answer h)
    answer_of_extent (exactly p q) = reach_answer p q
