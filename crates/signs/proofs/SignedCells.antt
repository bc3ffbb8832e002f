-- The cells of all products and quotients: those of the parts above 0, turned round for each minus and put together, and the cell of 0.
use mathlib.Core.Path.{◌≡◌, refl, sym, ap, ap₂, ◌∙◌}
use mathlib.Core.Bool.{Bool, true, false, not, ◌||◌}
use mathlib.Core.Logic.{ite}
use Prim.Native.Nat.{ℕ, ◌+◌, ◌-◌, ◌^◌, ◌≤◌, min, max}
use native.Mathlib.Omega.{arith}
use native.Mathlib.Decide.{dec_le}
use lib.Dec.{leb, ltb}
use lib.IntN.{pos}
use lib.Pow.{pow_pos}
use borrow.Author.Tests.{lt-ltb, le-ltb, le-leb, lt-leb}
use Rattle.exact.specs.Fraction.{Fraction, whole, negᶠ, ◌*ᶠ◌, ◌/ᶠ◌}
use Rattle.bound.specs.Bound.{Bound, map_bound}
use Rattle.bound.specs.Extent.{Extent, empty, span, turn, hull, within?, Within, normal, point}
use Rattle.bound.specs.Operation.{combine}
use Rattle.bound.specs.Above.{extent_back}
use Rattle.bound.specs.Sign.{negate, both_signs, positive_part, among_all, nonzero_part, zero_part, zero_extent_if, by_signs}
use Rattle.bound.specs.Arithmetic.{product, quotient}
use Rattle.bound.specs.FractionArithmetic.{fraction_arithmetic}
use Rattle.bound.specs.Cell.{cell, low_cell_in, high_cell_in}
use Rattle.bound.specs.Range.{range_extent, low, high}
use Rattle.bound.specs.Fractions.{fractions, signed_fractions}
use Rattle.bound.proofs.CellHull.{hull_low_cell, hull_high_cell}
use Rattle.bound.proofs.CellBound.{start_bounded}
use Rattle.bound.proofs.NegateRange.{neg_start_cell, neg_end_cell}
use Rattle.bound.proofs.Range.{member_in_cells, has_member_iff}
use Rattle.bound.proofs.Extent.{normal_of_some, normal_spans, empty_iff_no_member}
use Rattle.bound.proofs.Cell.{cell_is}
use Rattle.word.specs.declared.inner.span.Span.{Span}
use Rattle.word.specs.Member.{Real}
use Rattle.word.specs.Numbered.{count}
use Rattle.word.specs.Spans.{top_cell, no_cells, cells_of, mirrored, word_at}
use Rattle.word.specs.Computed.{cell_of, low_cell, high_cell, exact_extent, answer_of}
use Rattle.signs.specs.Signs.{is_none, part_above, start_edge, end_edge, positive_results, hull_of, turned_cells, either_sign, signed_results, has_zero, has_other, zero_if, product_cells, quotient_cells}
use Rattle.cell.specs.Cells.{zero_cell}
use Rattle.word.proofs.Grid.{posits}
use Rattle.word.proofs.Places.{top_cell_says}
use Rattle.word.proofs.Mirrored.{odd, mirrored_some, mirrored_none}
use Rattle.cell.proofs.ZeroCell.{cell_of_zero, zero_in_cell}
use Rattle.signs.proofs.Edges.{first_cell_is, last_cell_is}
use Rattle.signs.proofs.Operands.{Reads, bounded, word_reads, negative_reads}
use Rattle.signs.proofs.Parts.{PartOf, no_part, some_part, part_cells_none, part_reads}

-- the cells that an extent reaches
abbrev pub reached : ℕ → ℕ → Extent Fraction → Span
reached n es u = record { lo = low_cell n es u; hi = high_cell n es u }

module _ (n es : ℕ) (wide : 3 ≤ n) where
  low_same : (u : Extent Fraction) → low_cell n es u ≡ low_cell_in (posits n es wide) u
  unfolding cell_of cell
  low_same empty = ap (λ (c : ℕ). c + 1) (top_cell_says n wide)
  low_same (span s e) = refl

  high_same : (u : Extent Fraction) → high_cell n es u ≡ high_cell_in (posits n es wide) u
  unfolding cell_of cell
  high_same empty = refl
  high_same (span s e) = refl

  -- ---- a hull and a negative
  pub hull_reached : (u v : Extent Fraction) → reached n es (hull fractions u v) ≡ hull_of (reached n es u) (reached n es v)
  hull_reached u v i =
      record {
        lo = (low_same (hull fractions u v) ∙ hull_low_cell (posits n es wide) u v ∙ ap₂ min (sym (low_same u)) (sym (low_same v))) i;
        hi = (high_same (hull fractions u v) ∙ hull_high_cell (posits n es wide) u v ∙ ap₂ max (sym (high_same u)) (sym (high_same v))) i;
      }

  pub none_is : is_none n (no_cells n) ≡ true
  none_is = lt-ltb (top_cell n) (top_cell n + 1) (omega arith)

  start_there : (s e : Bound Fraction) → is_none n (reached n es (span s e)) ≡ false
  start_there s e = le-ltb (top_cell n) (low_cell n es (span s e)) (omega (arith, low_same (span s e), start_bounded (posits n es wide) s, top_cell_says n wide))

  pub negate_reached : (u : Extent Fraction) → reached n es (negate signed_fractions u) ≡ turned_cells n (reached n es u)
  unfolding negate
  negate_reached empty = rw none_is
  negate_reached (span s e) =
      rw (start_there s e) (λ i.
      record {
        lo =
            (low_same (span (map_bound negᶠ e) (map_bound negᶠ s)) ∙ neg_start_cell signed_fractions (posits n es wide) (odd n es wide) e
            ∙ ap₂ (λ (t c : ℕ). t - c) (sym (top_cell_says n wide)) (sym (high_same (span s e)))) i;
        hi =
            (high_same (span (map_bound negᶠ e) (map_bound negᶠ s)) ∙ neg_end_cell signed_fractions (posits n es wide) (odd n es wide) s
            ∙ ap₂ (λ (t c : ℕ). t - c) (sym (top_cell_says n wide)) (sym (low_same (span s e)))) i;
      })

  -- ---- two parts above 0
  abbrev pub piece_of : Bool → Extent Fraction → Extent Fraction → Extent Fraction
  piece_of true x y = combine ◌/ᶠ◌ x (turn y)
  piece_of false x y = combine ◌*ᶠ◌ x y

  module _ {u v : Extent Fraction} {p q : Span} where
    piece_some : (divide : Bool) → PartOf n es u p → PartOf n es v q
        → reached n es (among_all signed_fractions (piece_of divide (positive_part signed_fractions u) (positive_part signed_fractions v))) ≡ positive_results n es divide p q
    unfolding among_all extent_back combine
    piece_some true (no_part e f) k = rw (e, f, none_is)
    piece_some false (no_part e f) k = rw (e, f, none_is)
    piece_some true (some_part s d e x y a b c) (no_part e' f') = rw (e, e', f', none_is, le-ltb (top_cell n) p.lo (omega arith))
    piece_some false (some_part s d e x y a b c) (no_part e' f') = rw (e, e', f', none_is, le-ltb (top_cell n) p.lo (omega arith))
    piece_some true (some_part s d e x y a b c) (some_part s' d' e' x' y' a' b' c') =
        rw (e, e', le-ltb (top_cell n) p.lo (omega arith), le-ltb (top_cell n) q.lo (omega arith)) (λ i.
        record {
          lo = first_cell_is n es wide true (start_edge n p.lo) (end_edge n q.hi) x y' i;
          hi = last_cell_is n es wide true (end_edge n p.hi) (start_edge n q.lo) y x' i;
        })
    piece_some false (some_part s d e x y a b c) (some_part s' d' e' x' y' a' b' c') =
        rw (e, e', le-ltb (top_cell n) p.lo (omega arith), le-ltb (top_cell n) q.lo (omega arith)) (λ i.
        record {
          lo = first_cell_is n es wide false (start_edge n p.lo) (start_edge n q.lo) x x' i;
          hi = last_cell_is n es wide false (end_edge n p.hi) (end_edge n q.hi) y y' i;
        })

  abbrev minus : Extent Fraction → Extent Fraction
  minus = negate signed_fractions

  abbrev above_of : Extent Fraction → Extent Fraction
  above_of u = among_all signed_fractions (positive_part signed_fractions u)

  -- ---- whether an extent has members
  abbrev is_span : Extent Fraction → Bool
  is_span empty = false
  is_span (span s e) = true

  span_hull : (u v : Extent Fraction) → is_span (hull fractions u v) ≡ (is_span u || is_span v)
  unfolding hull
  span_hull empty v = refl
  span_hull (span s e) empty = refl
  span_hull (span s e) (span t f) = refl

  span_negate : (u : Extent Fraction) → is_span (negate signed_fractions u) ≡ is_span u
  unfolding negate
  span_negate empty = refl
  span_negate (span s e) = refl

  span_among_all : (u : Extent Fraction) → is_span (among_all signed_fractions u) ≡ is_span u
  unfolding among_all extent_back
  span_among_all empty = refl
  span_among_all (span s e) = refl

  span_part : {u : Extent Fraction} {p : Span} → PartOf n es u p → is_span (positive_part signed_fractions u) ≡ not (is_none n p)
  span_part (no_part e f) = rw (e, f, none_is)
  span_part {p = p} (some_part s d e x y a b c) = rw (e, le-ltb (top_cell n) p.lo (omega arith))

  zero_reached : (u v : Extent Fraction) → reached n es (zero_extent_if signed_fractions u v) ≡ zero_if n (is_span u) (is_span v)
  unfolding zero_extent_if
  zero_reached empty v = refl
  zero_reached (span s e) empty = refl
  zero_reached (span s e) (span t f) = rw (cell_of_zero n es wide)

  -- a part above 0 is there where a cell lies above that of 0
  some_above : (s : Span) → s.hi ≤ top_cell n → s.lo ≤ s.hi → not (is_none n (part_above n s)) ≡ leb (2 ^ n) s.hi
  some_above s h l = go (dec_le (2 ^ n) s.hi)
    where
      go : Dec (2 ^ n ≤ s.hi) → not (is_none n (part_above n s)) ≡ leb (2 ^ n) s.hi
      go (yes k) = rw (le-leb (2 ^ n) s.hi k, le-ltb s.hi (2 ^ n) k, le-ltb (top_cell n) (max s.lo (2 ^ n)) (omega arith))
      go (no k) = rw (lt-leb (2 ^ n) s.hi (omega arith), lt-ltb s.hi (2 ^ n) (omega arith), none_is)

  below_turned : (lo : ℕ) → lo ≤ top_cell n → leb (2 ^ n) (top_cell n - lo) ≡ ltb lo (zero_cell n)
  below_turned lo h = go (dec_le (2 ^ n) (top_cell n - lo))
    where
      go : Dec (2 ^ n ≤ top_cell n - lo) → leb (2 ^ n) (top_cell n - lo) ≡ ltb lo (zero_cell n)
      go (yes k) = le-leb (2 ^ n) (top_cell n - lo) k ∙ sym (lt-ltb lo (zero_cell n) (omega (arith, k, h, top_cell_says n wide, pow_pos n)))
      go (no k) = lt-leb (2 ^ n) (top_cell n - lo) (omega arith) ∙ sym (le-ltb lo (zero_cell n) (omega (arith, k, h, top_cell_says n wide, pow_pos n)))

  others_of_some : (lo hi : ℕ) → lo ≤ hi → hi ≤ top_cell n
      → (not (is_none n (part_above n (record { lo = lo; hi = hi }))) || not (is_none n (part_above n (mirrored n (record { lo = lo; hi = hi }))))) ≡ has_other n (record { lo = lo; hi = hi })
  others_of_some lo hi l h =
      rw (mirrored_some n (record { lo = lo; hi = hi }) l)
      (ap₂ ◌||◌ (some_above (record { lo = lo; hi = hi }) h l)
      (some_above (record { lo = top_cell n - hi; hi = top_cell n - lo }) (omega arith) (omega arith) ∙ below_turned lo (omega arith)))

  others_of_none : (not (is_none n (part_above n (no_cells n))) || not (is_none n (part_above n (mirrored n (no_cells n))))) ≡ has_other n (no_cells n)
  others_of_none =
      rw (mirrored_none n (no_cells n) (omega arith), part_cells_none n es wide (no_cells n) (pow_pos n), none_is, lt-leb (2 ^ n) 0 (pow_pos n), le-ltb (top_cell n + 1) (zero_cell n) (omega (arith, top_cell_says n wide)))

  module _ {u : Extent Fraction} {s : Span} (r : Reads n es wide u s) where
    -- 0 is a member
    zero_member : Within fractions (range_extent (posits n es wide) r.range) (whole (pos 0)) → has_zero n s ≡ true
    zero_member w =
        let i = (member_in_cells (posits n es wide) r.range r.there (whole (pos 0))).0 w in
        let z = cell_is (posits n es wide) (zero_in_cell n es wide) in
        rw (r.some (omega (arith, i.from_low, i.to_high)), le-leb (low r.range) (zero_cell n) (omega (arith, z, i.from_low)), le-leb (zero_cell n) (high (count n) r.range) (omega (arith, z, i.to_high)))

    no_zero_member : ¬ Within fractions (range_extent (posits n es wide) r.range) (whole (pos 0)) → has_zero n s ≡ false
    no_zero_member w = go (dec_le (low r.range) (high (count n) r.range)) (dec_le (low r.range) (zero_cell n)) (dec_le (zero_cell n) (high (count n) r.range))
      where
        go : Dec (low r.range ≤ high (count n) r.range) → Dec (low r.range ≤ zero_cell n) → Dec (zero_cell n ≤ high (count n) r.range) → has_zero n s ≡ false
        go (no l) d e = rw (r.none_at_all (omega arith), lt-leb (top_cell n + 1) (zero_cell n) (omega (arith, top_cell_says n wide)))
        go (yes l) (no h) e = rw (r.some l, lt-leb (low r.range) (zero_cell n) (omega arith))
        go (yes l) (yes h) (no k) = rw (r.some l, le-leb (low r.range) (zero_cell n) h, lt-leb (zero_cell n) (high (count n) r.range) (omega arith))
        go (yes l) (yes h) (yes k) =
            let z = cell_is (posits n es wide) (zero_in_cell n es wide) in
            absurd (w ((member_in_cells (posits n es wide) r.range r.there (whole (pos 0))).1 (record { from_low = omega (arith, z, h); to_high = omega (arith, z, k) })))

    span_zero_part : is_span (zero_part signed_fractions u) ≡ has_zero n s
    unfolding zero_part
    span_zero_part = rw r.is (go (within? fractions (range_extent (posits n es wide) r.range) (whole (pos 0))))
      where
        go : (d : Dec (Within fractions (range_extent (posits n es wide) r.range) (whole (pos 0)))) → is_span (ite d (point (whole (pos 0))) empty) ≡ has_zero n s
        go (yes w) = sym (zero_member w)
        go (no w) = sym (no_zero_member w)

    -- some number is
    span_normal : is_span (normal fractions u) ≡ leb s.lo s.hi
    span_normal = go (dec_le (low r.range) (high (count n) r.range))
      where
        go : Dec (low r.range ≤ high (count n) r.range) → is_span (normal fractions u) ≡ leb s.lo s.hi
        go (yes l) =
            let (x, m) = (has_member_iff (posits n es wide) r.range r.there).1 l in
            rw (r.some l, le-leb (low r.range) (high (count n) r.range) l)
            (ap is_span (ap (normal fractions) r.is ∙ normal_of_some fractions _ _ m))
        go (no l) =
            rw (r.none_at_all (omega arith))
            (ap is_span (ap (normal fractions) r.is
            ∙ (empty_iff_no_member fractions (normal_spans fractions (range_extent (posits n es wide) r.range))).1
            (λ x m. l ((has_member_iff (posits n es wide) r.range r.there).0 (x, m))))
            ∙ sym (lt-leb (top_cell n + 1) 0 (omega arith)))

    -- a number other than 0 is
    others : (not (is_none n (part_above n s)) || not (is_none n (part_above n (mirrored n s)))) ≡ has_other n s
    others = go (dec_le (low r.range) (high (count n) r.range))
      where
        go : Dec (low r.range ≤ high (count n) r.range) → (not (is_none n (part_above n s)) || not (is_none n (part_above n (mirrored n s)))) ≡ has_other n s
        go (yes l) =
            let h : high (count n) r.range ≤ top_cell n =
            omega (arith, (bounded (count n) r.range.end r.there.end_there).end_bounded, top_cell_says n wide) in
            rw (r.some l) (others_of_some (low r.range) (high (count n) r.range) l h)
        go (no l) = rw (r.none_at_all (omega arith)) others_of_none

    span_nonzero_part : is_span (nonzero_part signed_fractions u) ≡ has_other n s
    unfolding nonzero_part both_signs
    span_nonzero_part =
        span_hull (above_of u) (minus (above_of (minus u)))
        ∙ ap₂ ◌||◌ (span_among_all (positive_part signed_fractions u) ∙ span_part (part_reads n es wide r))
        (span_negate (above_of (minus u)) ∙ span_among_all (positive_part signed_fractions (minus u)) ∙ span_part (part_reads n es wide (negative_reads n es wide r)))
        ∙ others

  -- ---- the pairs of signs
  module _ {u v : Extent Fraction} {s t : Span} (divide : Bool) (a : Reads n es wide u s) (b : Reads n es wide v t) where
    abbrev piece : Extent Fraction → Extent Fraction → Extent Fraction
    piece x y = among_all signed_fractions (piece_of divide (positive_part signed_fractions x) (positive_part signed_fractions y))

    abbrev with_signs : Extent Fraction → Extent Fraction
    with_signs x = both_signs signed_fractions (piece x) v

    either_reached : (x : Extent Fraction) {p : Span} → PartOf n es x p
        → reached n es (with_signs x) ≡ either_sign n es divide p (part_above n t) (part_above n (mirrored n t))
    unfolding both_signs
    either_reached x k =
        hull_reached (piece x v) (minus (piece x (minus v)))
        ∙ ap₂ hull_of (piece_some divide k (part_reads n es wide b))
        (negate_reached (piece x (minus v)) ∙ ap (turned_cells n) (piece_some divide k (part_reads n es wide (negative_reads n es wide b))))

    signed_reached : reached n es (both_signs signed_fractions with_signs u) ≡ signed_results n es divide s t
    unfolding both_signs
    signed_reached =
        hull_reached (with_signs u) (minus (with_signs (minus u)))
        ∙ ap₂ hull_of (either_reached u (part_reads n es wide a))
        (negate_reached (with_signs (minus u)) ∙ ap (turned_cells n) (either_reached (minus u) (part_reads n es wide (negative_reads n es wide a))))

    -- with 0 as a left operand
    pub by_signs_reached : reached n es (by_signs signed_fractions (piece_of divide) u v) ≡ hull_of (signed_results n es divide s t) (zero_if n (has_zero n s) (has_other n t))
    unfolding by_signs
    by_signs_reached =
        hull_reached (both_signs signed_fractions with_signs u) (zero_extent_if signed_fractions (zero_part signed_fractions u) (nonzero_part signed_fractions v))
        ∙ ap₂ hull_of signed_reached (zero_reached (zero_part signed_fractions u) (nonzero_part signed_fractions v) ∙ ap₂ (zero_if n) (span_zero_part a) (span_nonzero_part b))

  module _ {u v : Extent Fraction} {s t : Span} (a : Reads n es wide u s) (b : Reads n es wide v t) where
    pub product_reached : reached n es (product fraction_arithmetic u v) ≡ product_cells n es s t
    unfolding product
    product_reached =
        hull_reached (by_signs signed_fractions (piece_of false) u v) (zero_extent_if signed_fractions (normal fractions u) (zero_part signed_fractions v))
        ∙ ap₂ hull_of (by_signs_reached false a b) (zero_reached (normal fractions u) (zero_part signed_fractions v) ∙ ap₂ (zero_if n) (span_normal a) (span_zero_part b))

    pub quotient_reached : reached n es (quotient fraction_arithmetic u v) ≡ quotient_cells n es s t
    unfolding quotient
    quotient_reached = by_signs_reached true a b

  -- ---- the answers
  module _ {a b : ℕ} (x : Real n a) (y : Real n b) where
    pub product_answer : answer_of n es 2 a b ≡ word_at n (product_cells n es (cells_of n a) (cells_of n b))
    unfolding answer_of exact_extent
    product_answer = ap (word_at n) (product_reached (word_reads n es wide x) (word_reads n es wide y))

    pub quotient_answer : answer_of n es 3 a b ≡ word_at n (quotient_cells n es (cells_of n a) (cells_of n b))
    unfolding answer_of exact_extent
    quotient_answer = ap (word_at n) (quotient_reached (word_reads n es wide x) (word_reads n es wide y))
