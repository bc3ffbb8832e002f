-- The exact extent of a real range's members, and the cells that it reaches: they are the cells of the word.
use mathlib.Core.Path.{◌≡◌, refl, sym, ap, ◌∙◌}
use mathlib.Core.Logic.Iff
use mathlib.Core.Logic.{◌↔◌}
use Prim.Native.Nat.{ℕ, ◌+◌, ◌≤◌}
use native.Mathlib.Omega.{arith}
use Rattle.exact.specs.Fraction.{Fraction}
use Rattle.bound.specs.Order.{Order}
use Rattle.bound.specs.Bound.{Bound, none, closed_at, open_at, map_bound}
use Rattle.bound.specs.Extent.{Extent, empty, Within, from_to, Spans, normal}
use Rattle.bound.specs.Cell.{Grid, start_cell_in, end_cell_in}
use Rattle.bound.specs.End.{OnGrid, start_place, end_place}
use Rattle.bound.specs.Range.{Range, range_extent}
use Rattle.bound.specs.Fractions.{fractions}
use Rattle.bound.proofs.Cell.{value_cell, cell_is}
use Rattle.bound.proofs.Extent.{spans_of_same_set, normal_spans, normal_of_some, empty_iff_no_member}
use Rattle.bound.proofs.Smallest.{at_low}
use Rattle.word.specs.Word.{start_of, end_of}
use Rattle.word.specs.Member.{Real, Member}
use Rattle.word.specs.Numbered.{number_of}
use Rattle.word.specs.Spans.{cells_of}
use Rattle.word.proofs.Grid.{posits}
use Rattle.word.proofs.Places.{top_cell_says}
use Rattle.word.proofs.RealWords.{RealCase, has_cells, has_none, real_case, start_placed, end_placed, high_there}
use Rattle.word.proofs.Members.{start_bound, end_bound, member_cells}
use Rattle.word.proofs.Comparisons.{of_cells}
use Rattle.word.proofs.Answers.{reach}

-- ---- a word's ends by the numbers of their posits
abbrev pub range_of : ℕ → ℕ → Range
range_of n w = record { start = map_bound (number_of n) (start_of n w); end = map_bound (number_of n) (end_of n w) }

-- ---- the cells of an end that stands on a value
module _ {O : Order} (G : Grid O) where
  start_on_value : (b : Bound ℕ) → OnGrid G.count b → start_cell_in G (map_bound G.value b) ≡ start_place b
  start_on_value none h = refl
  start_on_value (closed_at k) h = cell_is G (value_cell G k h)
  start_on_value (open_at k) h = omega (arith, cell_is G (value_cell G k h))

  end_on_value : (b : Bound ℕ) → OnGrid G.count b → end_cell_in G (map_bound G.value b) ≡ end_place G.count b
  end_on_value none h = refl
  end_on_value (closed_at k) h = cell_is G (value_cell G k h)
  end_on_value (open_at k) h = omega (arith, cell_is G (value_cell G k h))

module _ (n es : ℕ) (wide : 3 ≤ n) where
  -- the exact extent of the members
  abbrev pub extent_of : ℕ → Extent Fraction
  extent_of w = normal fractions (range_extent (posits n es wide) (range_of n w))

  module _ {w : ℕ} (r : Real n w) where
    pub member_within : (x : Fraction) → Member n es w x ↔ Within fractions (range_extent (posits n es wide) (range_of n w)) x
    member_within x =
        let (f, g) = start_bound n es wide (start_of n w) (start_placed n wide r).finite_end x in
        let (h, k) = end_bound n es wide (end_of n w) (end_placed n wide r).finite_end x in
        (λ m. from_to (f m.after_start) (h m.before_end), λ m. elim m [ from_to a b ↦ record { after_start = g a; before_end = k b } ])

    pub extent_spans : Spans fractions (Member n es w) (extent_of w)
    extent_spans = spans_of_same_set fractions (λ x. Iff.symm (member_within x)) (normal_spans fractions (range_extent (posits n es wide) (range_of n w)))

    pub extent_cells : reach n es wide (extent_of w) ≡ cells_of n w
    extent_cells = go (real_case n wide r)
      where
        go : RealCase n w → reach n es wide (extent_of w) ≡ cells_of n w
        go (has_cells k l e) =
            let (x, i, j) = at_low (posits n es wide) (cells_of n w).lo (cells_of n w).hi (rw e l) (high_there n wide r) in
            let s = start_placed n wide r in
            let t = end_placed n wide r in
            let o : extent_of w ≡ range_extent (posits n es wide) (range_of n w) = normal_of_some fractions _ _ ((member_within x).0 (of_cells n es wide r i)) in
            ap (reach n es wide) o
            ∙ (λ i. record {
              lo = (start_on_value (posits n es wide) (range_of n w).start s.on_grid ∙ sym s.start_cell_is) i;
              hi = (end_on_value (posits n es wide) (range_of n w).end t.on_grid ∙ sym t.end_cell_is) i;
            })
            ∙ sym e
        go (has_none t a m o l e) =
            let d : extent_of w ≡ empty =
            (empty_iff_no_member fractions extent_spans).1 (λ x k. (let h = rw e at ((member_cells n es wide r x).0 k) in absurd (omega (arith, h)))) in
            ap (reach n es wide) d ∙ (λ i. record { lo = ap (λ (c : ℕ). c + 1) (sym (top_cell_says n wide)) i; hi = 0 }) ∙ sym e
