-- The part above 0 of an operand: it is empty where no cell lies above that of 0, and else its bounds are the ends at its first and last cell.
use mathlib.Core.Path.{◌≡◌, refl, sym, ap, ◌∙◌}
use mathlib.Core.Logic.{ite}
use Prim.Native.Nat.{ℕ, ◌+◌, ◌-◌, ◌*◌, ◌/◌, ◌%◌, ◌^◌, ◌≤◌, ◌<◌, max}
use native.Mathlib.Omega.{arith}
use native.Mathlib.Decide.{dec_le, dec_lt}
use lib.IntN.{pos}
use lib.Pow.{pow_pos}
use borrow.Author.Tests.{eq-eqb, ne_eqb, lt-ltb, le-ltb}
use Rattle.exact.specs.Fraction.{Fraction, ◌≤ᶠ◌, whole}
use Rattle.bound.specs.Bound.{Bound, none, closed_at, open_at, map_bound}
use Rattle.bound.specs.Extent.{Extent, empty, span}
use Rattle.bound.specs.Above.{bound_above}
use Rattle.bound.specs.Sign.{positive_part}
use Rattle.bound.specs.Cell.{Grid}
use Rattle.bound.specs.End.{OnGrid, start_place, end_place}
use Rattle.bound.specs.Range.{Range, OnValues, range_extent, low, high}
use Rattle.bound.specs.Fractions.{fractions, signed_fractions}
use Rattle.bound.proofs.Above.{part_of_some, part_of_none}
use Rattle.bound.proofs.Range.{member_in_cells}
use Rattle.bound.proofs.Smallest.{at_low}
use Rattle.word.specs.declared.inner.span.Span.{Span}
use Rattle.word.specs.Numbered.{count, value_at}
use Rattle.word.specs.Spans.{top_cell, no_cells}
use Rattle.signs.specs.Signs.{start_edge, end_edge, part_above}
use Rattle.word.proofs.Grid.{posits}
use Rattle.word.proofs.Places.{top_cell_says}
use Rattle.cell.proofs.ZeroCell.{even, zero_in_cell, above_zero, zero_below}
use Rattle.signs.proofs.Edges.{no_limit, closed_limit, open_limit, IsEdge}
use Rattle.signs.proofs.Operands.{Reads, bounded}

-- the part above 0 of u, with the cells p
pub data PartOf (n es : ℕ) (u : Extent Fraction) (p : Span) : Type 0 where
  no_part : positive_part signed_fractions u ≡ empty → p ≡ no_cells n → PartOf n es u p
  some_part : (s e : Bound Fraction) → positive_part signed_fractions u ≡ span s e → IsEdge n es s (start_edge n p.lo) → IsEdge n es e (end_edge n p.hi)
      → 2 ^ n ≤ p.lo → p.lo ≤ p.hi → p.hi ≤ top_cell n → PartOf n es u p

module _ (n es : ℕ) where
  -- ---- the ends at a cell
  no_start : {c : ℕ} → c ≡ 2 ^ n → IsEdge n es none (start_edge n c)
  no_start {c} e = rw (eq-eqb c (2 ^ n) e) no_limit

  no_end : {c : ℕ} → c ≡ top_cell n → IsEdge n es none (end_edge n c)
  no_end {c} e = rw (eq-eqb c (top_cell n) e) no_limit

  closed_start : {c : ℕ} (k : ℕ) → c ≡ 2 * k + 1 → 2 ^ n < c → IsEdge n es (closed_at (value_at n es k)) (start_edge n c)
  closed_start {c} k e l =
      let h : (c - 1) / 2 ≡ k = omega arith in
      rw (ne_eqb c (2 ^ n) (omega arith), eq-eqb (c % 2) 1 (omega arith), h) closed_limit

  open_start : {c : ℕ} (k : ℕ) → c ≡ 2 * k + 2 → 2 ^ n < c → IsEdge n es (open_at (value_at n es k)) (start_edge n c)
  open_start {c} k e l =
      let h : (c - 1) / 2 ≡ k = omega arith in
      rw (ne_eqb c (2 ^ n) (omega arith), ne_eqb (c % 2) 1 (omega arith), h) open_limit

  closed_end : {c : ℕ} (k : ℕ) → c ≡ 2 * k + 1 → c < top_cell n → IsEdge n es (closed_at (value_at n es k)) (end_edge n c)
  closed_end {c} k e l =
      let h : c / 2 ≡ k = omega arith in
      rw (ne_eqb c (top_cell n) (omega arith), eq-eqb (c % 2) 1 (omega arith), h) closed_limit

  open_end : {c : ℕ} (k : ℕ) → c ≡ 2 * k → c < top_cell n → IsEdge n es (open_at (value_at n es k)) (end_edge n c)
  open_end {c} k e l =
      let h : c / 2 ≡ k = omega arith in
      rw (ne_eqb c (top_cell n) (omega arith), ne_eqb (c % 2) 1 (omega arith), h) open_limit

module _ (n es : ℕ) (wide : 3 ≤ n) where
  abbrev origin : Fraction
  origin = whole (pos 0)

  higher : (k : ℕ) → k < count n → ¬ (value_at n es k ≤ᶠ origin) → 2 ^ n < 2 * k + 1
  higher k h l = go (dec_lt (2 ^ n) (2 * k + 1))
    where
      go : Dec (2 ^ n < 2 * k + 1) → 2 ^ n < 2 * k + 1
      go (yes m) = m
      go (no m) = absurd (l (((zero_in_cell n es wide).from_value k h).1 (omega (arith, even n es wide))))

  -- ---- a bound above 0
  start_above : (b : Bound ℕ) → OnGrid (count n) b
      → IsEdge n es (bound_above fractions origin (map_bound (value_at n es) b)) (start_edge n (max (start_place b) (2 ^ n)))
  unfolding bound_above
  start_above none h = no_start n es (omega arith)
  start_above (closed_at k) h = go (fractions.decide (value_at n es k) origin)
    where
      go : (d : Dec (value_at n es k ≤ᶠ origin)) → IsEdge n es (ite d none (closed_at (value_at n es k))) (start_edge n (max (2 * k + 1) (2 ^ n)))
      go (yes l) = no_start n es (omega (arith, ((zero_in_cell n es wide).from_value k h).0 l))
      go (no l) = let m : 2 ^ n < 2 * k + 1 = higher k h l in closed_start n es k (omega arith) (omega arith)
  start_above (open_at k) h = go (fractions.decide (value_at n es k) origin)
    where
      go : (d : Dec (value_at n es k ≤ᶠ origin)) → IsEdge n es (ite d none (open_at (value_at n es k))) (start_edge n (max (2 * k + 2) (2 ^ n)))
      go (yes l) = no_start n es (omega (arith, ((zero_in_cell n es wide).from_value k h).0 l, even n es wide))
      go (no l) = let m : 2 ^ n < 2 * k + 1 = higher k h l in open_start n es k (omega arith) (omega arith)

  end_above : (b : Bound ℕ) → OnGrid (count n) b → 2 ^ n ≤ end_place (count n) b
      → IsEdge n es (bound_above fractions origin (map_bound (value_at n es) b)) (end_edge n (end_place (count n) b))
  unfolding bound_above
  end_above none h m = no_end n es (sym (top_cell_says n wide))
  end_above (closed_at k) h m = go (fractions.decide (value_at n es k) origin)
    where
      go : (d : Dec (value_at n es k ≤ᶠ origin)) → IsEdge n es (ite d none (closed_at (value_at n es k))) (end_edge n (2 * k + 1))
      go (yes l) = absurd (omega (arith, m, ((zero_in_cell n es wide).from_value k h).0 l))
      go (no l) = closed_end n es k refl (omega (arith, top_cell_says n wide, h))
  end_above (open_at k) h m = go (fractions.decide (value_at n es k) origin)
    where
      go : (d : Dec (value_at n es k ≤ᶠ origin)) → IsEdge n es (ite d none (open_at (value_at n es k))) (end_edge n (2 * k))
      go (yes l) = absurd (omega (arith, m, ((zero_in_cell n es wide).from_value k h).0 l))
      go (no l) = open_end n es k refl (omega (arith, top_cell_says n wide, h))

  -- ---- the part of a range
  abbrev G : Grid fractions
  G = posits n es wide

  module _ (r : Range) (t : OnValues (count n) r) where
    part_some : max (low r) (2 ^ n) ≤ high (count n) r
        → positive_part signed_fractions (range_extent G r)
        ≡ span (bound_above fractions origin (map_bound (value_at n es) r.start)) (bound_above fractions origin (map_bound (value_at n es) r.end))
    unfolding positive_part
    part_some h =
        let (x, i, j) = at_low G (max (low r) (2 ^ n)) (high (count n) r) h (bounded (count n) r.end t.end_there).end_bounded in
        part_of_some fractions origin _ _
        ((member_in_cells G r t x).1 (record { from_low = omega (arith, i.from_low); to_high = i.to_high })) (zero_below n es wide (omega (arith, j)))

    part_none : high (count n) r < max (low r) (2 ^ n) → positive_part signed_fractions (range_extent G r) ≡ empty
    unfolding positive_part
    part_none h =
        part_of_none fractions origin _ _
        (λ x m l. let i = (member_in_cells G r t x).0 m in absurd (omega (arith, h, i.from_low, i.to_high, above_zero n es wide l)))

  part_cells : (s : Span) → 2 ^ n ≤ s.hi → part_above n s ≡ record { lo = max s.lo (2 ^ n); hi = s.hi }
  part_cells s h = rw (le-ltb s.hi (2 ^ n) h)

  pub part_cells_none : (s : Span) → s.hi < 2 ^ n → part_above n s ≡ no_cells n
  part_cells_none s h = rw (lt-ltb s.hi (2 ^ n) h)

  pub part_reads : {u : Extent Fraction} {s : Span} → Reads n es wide u s → PartOf n es u (part_above n s)
  part_reads {u} {s} r = go (dec_le (max (low r.range) (2 ^ n)) (high (count n) r.range)) (dec_le (low r.range) (high (count n) r.range))
    where
      go : Dec (max (low r.range) (2 ^ n) ≤ high (count n) r.range) → Dec (low r.range ≤ high (count n) r.range) → PartOf n es u (part_above n s)
      go (yes h) d =
          let q : part_above n s ≡ record { lo = max (low r.range) (2 ^ n); hi = high (count n) r.range } =
          ap (part_above n) (r.some (omega arith)) ∙ part_cells (record { lo = low r.range; hi = high (count n) r.range }) (omega arith) in
          rw q
          (some_part _ _ (ap (positive_part signed_fractions) r.is ∙ part_some r.range r.there h)
          (start_above r.range.start r.there.start_there) (end_above r.range.end r.there.end_there (omega arith)) (omega arith) h
          (omega (arith, (bounded (count n) r.range.end r.there.end_there).end_bounded, top_cell_says n wide)))
      go (no h) (yes l) =
          no_part (ap (positive_part signed_fractions) r.is ∙ part_none r.range r.there (omega arith))
          (ap (part_above n) (r.some l) ∙ part_cells_none (record { lo = low r.range; hi = high (count n) r.range }) (omega arith))
      go (no h) (no l) =
          no_part (ap (positive_part signed_fractions) r.is ∙ part_none r.range r.there (omega arith))
          (ap (part_above n) (r.none_at_all (omega arith)) ∙ part_cells_none (no_cells n) (pow_pos n))
