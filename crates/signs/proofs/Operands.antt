-- An operand read as an interval whose ends stand on posits, with its cells; so is its negative.
use mathlib.Core.Path.{◌≡◌, refl, sym, ap, ap₂, ◌∙◌}
use Prim.Native.Nat.{ℕ, suc, ◌-◌, ◌*◌, ◌≤◌, ◌<◌}
use native.Mathlib.Omega.{arith}
use Rattle.exact.specs.Fraction.{Fraction, negᶠ}
use Rattle.bound.specs.Bound.{Bound, none, closed_at, open_at, map_bound}
use Rattle.bound.specs.Extent.{Extent, span}
use Rattle.bound.specs.Sign.{negate}
use Rattle.bound.specs.End.{OnGrid, start_place, end_place}
use Rattle.bound.specs.Range.{Range, OnValues, range_extent, low, high, negate_range}
use Rattle.bound.specs.Fractions.{signed_fractions}
use Rattle.bound.proofs.NegateRange.{negate_there}
use Rattle.posit.specs.Value.{value}
use Rattle.posit.proofs.Patterns.{some_bit}
use Rattle.word.specs.declared.inner.span.Span.{Span}
use Rattle.word.specs.Word.{start_tile, end_tile, start_of, end_of}
use Rattle.word.specs.Member.{Real}
use Rattle.word.specs.Numbered.{count, number_of, value_at}
use Rattle.word.specs.Spans.{no_cells, cells_of, mirrored}
use Rattle.word.specs.Computed.{extent_of}
use Rattle.word.proofs.Grid.{posits, value_of_number, mirrored_value}
use Rattle.word.proofs.Places.{FiniteEnd, Placed, top_cell_says}
use Rattle.word.proofs.RealWords.{RealCase, has_cells, has_none, real_case, start_placed, end_placed}
use Rattle.word.proofs.Extents.{range_of}
use Rattle.word.proofs.Mirrored.{mirrored_some, mirrored_none}

-- u is the interval of a range r, and s its cells
pub record Reads (n es : ℕ) (wide : 3 ≤ n) (u : Extent Fraction) (s : Span) : Type 0 where
  pub range : Range
  pub there : OnValues (count n) range
  pub is : u ≡ range_extent (posits n es wide) range
  pub some : low range ≤ high (count n) range → s ≡ record { lo = low range; hi = high (count n) range }
  pub none_at_all : high (count n) range < low range → s ≡ no_cells n

-- the places of an end
pub record Bounded (n : ℕ) (b : Bound ℕ) : Type 0 where
  pub start_bounded : start_place b ≤ 2 * n
  pub end_bounded : end_place n b ≤ 2 * n
  pub start_turned : start_place (map_bound (λ k. n - suc k) b) ≡ 2 * n - end_place n b
  pub end_turned : end_place n (map_bound (λ k. n - suc k) b) ≡ 2 * n - start_place b

pub bounded : (n : ℕ) (b : Bound ℕ) → OnGrid n b → Bounded n b
bounded n none h = omega arith
bounded n (closed_at k) h = omega arith
bounded n (open_at k) h = omega arith

module _ (n es : ℕ) (wide : 3 ≤ n) where
  -- ---- a word
  numbered : (b : Bound ℕ) → FiniteEnd n b → map_bound (value n es) b ≡ map_bound (value_at n es) (map_bound (number_of n) b)
  numbered none f = refl
  numbered (closed_at p) f = ap closed_at (sym (value_of_number n es (some_bit n wide) f))
  numbered (open_at p) f = ap open_at (sym (value_of_number n es (some_bit n wide) f))

  pub word_reads : {w : ℕ} → Real n w → Reads n es wide (extent_of n es w) (cells_of n w)
  word_reads {w} r = go (real_case n wide r)
    where
      s : Placed n (start_tile n w)
      s = start_placed n wide r

      e : Placed n (end_tile n w)
      e = end_placed n wide r

      there : OnValues (count n) (range_of n w)
      there = record { start_there = s.on_grid; end_there = e.on_grid }

      is : extent_of n es w ≡ range_extent (posits n es wide) (range_of n w)
      is = ap₂ span (numbered (start_of n w) s.finite_end) (numbered (end_of n w) e.finite_end)

      go : RealCase n w → Reads n es wide (extent_of n es w) (cells_of n w)
      go (has_cells k l c) =
          record {
            range = range_of n w;
            there = there;
            is = is;
            some = λ h. c ∙ (λ i. record { lo = s.start_cell_is i; hi = e.end_cell_is i });
            none_at_all = λ h. absurd (omega (arith, l, h, s.start_cell_is, e.end_cell_is));
          }
      go (has_none k i m o l c) =
          record {
            range = range_of n w;
            there = there;
            is = is;
            some = λ h. absurd (omega (arith, l, h, s.start_cell_is, e.end_cell_is));
            none_at_all = λ h. c;
          }

  -- ---- the negative
  turned_bound : (b : Bound ℕ) → OnGrid (count n) b → map_bound negᶠ (map_bound (value_at n es) b) ≡ map_bound (value_at n es) (map_bound (λ k. count n - suc k) b)
  turned_bound none h = refl
  turned_bound (closed_at k) h = ap closed_at (sym (mirrored_value n es (some_bit n wide) h))
  turned_bound (open_at k) h = ap open_at (sym (mirrored_value n es (some_bit n wide) h))

  turned_extent : (r : Range) → OnValues (count n) r
      → negate signed_fractions (range_extent (posits n es wide) r) ≡ range_extent (posits n es wide) (negate_range (count n) r)
  unfolding negate
  turned_extent r t = ap₂ span (turned_bound r.end t.end_there) (turned_bound r.start t.start_there)

  pub negative_reads : {u : Extent Fraction} {s : Span} → Reads n es wide u s → Reads n es wide (negate signed_fractions u) (mirrored n s)
  negative_reads {u} {s} r =
      let a = bounded (count n) r.range.start r.there.start_there in
      let b = bounded (count n) r.range.end r.there.end_there in
      record {
        range = negate_range (count n) r.range;
        there = negate_there (count n) r.range r.there;
        is = ap (negate signed_fractions) r.is ∙ turned_extent r.range r.there;
        some = λ h.
            let l : low r.range ≤ high (count n) r.range = omega (arith, h, a, b) in
            rw (r.some l)
            (mirrored_some n (record { lo = low r.range; hi = high (count n) r.range }) l
            ∙ (λ i. record {
              lo = (ap (λ (c : ℕ). c - high (count n) r.range) (top_cell_says n wide) ∙ sym b.start_turned) i;
              hi = (ap (λ (c : ℕ). c - low r.range) (top_cell_says n wide) ∙ sym a.end_turned) i;
            }));
        none_at_all = λ h. rw (r.none_at_all (omega (arith, h, a, b))) (mirrored_none n (no_cells n) (omega arith));
      }
