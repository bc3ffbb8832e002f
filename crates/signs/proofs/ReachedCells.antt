-- All cells that are computed for products and quotients are cells of the format, and a limit above 0 is a posit above 0.
use mathlib.Core.Path.{◌≡◌, refl, ◌∙◌}
use mathlib.Core.Bool.{Bool, true, false, ◌&&◌, ◌||◌}
use Prim.Native.Nat.{ℕ, ◌+◌, ◌-◌, ◌*◌, ◌/◌, ◌^◌, ◌≤◌, ◌<◌}
use native.Mathlib.Omega.{arith}
use native.Mathlib.Decide.{dec_le}
use borrow.Author.Tests.{eq-eqb, eqb-false, lt-ltb, le-ltb}
use Rattle.posit.specs.Format.{nar}
use Rattle.posit.specs.Value.{value}
use Rattle.posit.proofs.Patterns.{some_bit}
use Rattle.word.specs.declared.inner.span.Span.{Span}
use Rattle.word.specs.Numbered.{count, pattern_at}
use Rattle.word.specs.Spans.{top_cell, no_cells, mirrored, Cells}
use Rattle.signs.specs.declared.inner.edge.Edge.{Edge}
use Rattle.signs.specs.Signs.{pick_cell, pick_span, start_edge, end_edge, first_edge, last_edge, CellAbove, EdgeAbove, first_cell, last_cell, is_none, part_above, PartAbove, positive_some, positive_results, hull_of, turned_cells, either_sign, signed_results, zero_if}
use Rattle.cell.specs.Cells.{result_of, result_cell}
use Rattle.word.proofs.Grid.{half, once_over, nar_positive, pattern_high}
use Rattle.word.proofs.Places.{top_cell_says}
use Rattle.word.proofs.Mirrored.{mirrored_some, mirrored_none}
use Rattle.cell.proofs.CellFrom.{cell_bounded}

module _ (n : ℕ) (wide : 3 ≤ n) where
  -- ---- limits
  high_pattern : (k : ℕ) → nar n ≤ k → k < count n → (0 < pattern_at n k) × (pattern_at n k < nar n)
  high_pattern k h l =
      let e = pattern_high n (some_bit n wide) k (omega arith) l in
      (omega (arith, e), omega (arith, e, half n (some_bit n wide)))

  pub start_limit : {c z : ℕ} → CellAbove n c → z ≡ 2 ^ n → (c ≡ z → ⊥) → (0 < (start_edge n c).posit) × ((start_edge n c).posit < nar n)
  start_limit {c} {z} a e d = high_pattern ((c - 1) / 2) (omega (arith, half n (some_bit n wide), d, e, a.above)) (omega (arith, top_cell_says n wide, a.there))

  pub end_limit : {c z : ℕ} → CellAbove n c → z ≡ top_cell n → (c ≡ z → ⊥) → (0 < (end_edge n c).posit) × ((end_edge n c).posit < nar n)
  end_limit {c} {z} a e d = high_pattern (c / 2) (omega (arith, half n (some_bit n wide), a.above)) (omega (arith, top_cell_says n wide, a.there, e, d))

  -- without the sign
  pub start_by_count : {c : ℕ} → 2 ^ n ≤ c → c ≤ top_cell n → (c + 1 - 2 ^ n) / 2 ≡ (start_edge n c).posit
  start_by_count {c} h l =
      let even = half n (some_bit n wide) in
      let some = nar_positive n (some_bit n wide) in
      omega (arith, pattern_high n (some_bit n wide) ((c - 1) / 2) (omega (arith, even, h)) (omega (arith, top_cell_says n wide, some, even, l)), some, even, h)

  pub end_counted : {c : ℕ} → CellAbove n c → (c + 2 - 2 ^ n) / 2 ≡ (end_edge n c).posit
  end_counted {c} a =
      let even = half n (some_bit n wide) in
      omega (arith, once_over {x = c / 2 + nar n + 1} {m = 2 ^ n} (omega (arith, even, a.above)) (omega (arith, top_cell_says n wide, a.there, nar_positive n (some_bit n wide), even)), even)

  pub end_by_count : {c : ℕ} → 2 ^ n ≤ c → c < top_cell n → (c + 2 - 2 ^ n) / 2 ≡ (end_edge n c).posit
  end_by_count {c} h l = end_counted {c = c} (record { above = h; there = omega (arith, l) })

  -- a limit of a part that has members is a posit above 0
  pub start_positive : {c : ℕ} → CellAbove n c → EdgeAbove n (start_edge n c)
  start_positive {c} a e = start_limit a refl (eqb-false c (2 ^ n) e)

  pub end_positive : {c : ℕ} → CellAbove n c → EdgeAbove n (end_edge n c)
  end_positive {c} a e = end_limit a refl (eqb-false c (top_cell n) e)

  pub first_positive : (divide : Bool) {q : Span} → CellAbove n q.lo → CellAbove n q.hi → EdgeAbove n (first_edge n divide q)
  first_positive true a b = end_positive b
  first_positive false a b = start_positive a

  pub last_positive : (divide : Bool) {q : Span} → CellAbove n q.lo → CellAbove n q.hi → EdgeAbove n (last_edge n divide q)
  last_positive true a b = start_positive a
  last_positive false a b = end_positive b

  -- ---- parts
  pub first_above : {p : Span} → PartAbove n p → p.lo ≤ top_cell n → CellAbove n p.lo
  first_above a l = record { above = a.low_above; there = l }

  pub last_above_says : {p : Span} → PartAbove n p → p.lo ≤ top_cell n → CellAbove n p.hi
  last_above_says a l = record { above = omega (arith, a.low_above, a.ordered l); there = a.high_there }

  pub part_there : (s : Span) → Cells n s → (s.lo ≤ top_cell n → s.lo ≤ s.hi) → PartAbove n (part_above n s)
  part_there s c o = go (dec_le (2 ^ n) s.hi)
    where
      go : Dec (2 ^ n ≤ s.hi) → PartAbove n (part_above n s)
      go (yes h) =
          rw (le-ltb s.hi (2 ^ n) h)
          (record {
            low_above = omega arith;
            low_there = omega (arith, c.low_there, c.high_there);
            high_there = c.high_there;
            ordered = λ l. let k = o (omega arith) in omega (arith, k, h);
          })
      go (no h) =
          rw (lt-ltb s.hi (2 ^ n) (omega arith))
          (record { low_above = omega (arith, top_cell_says n wide); low_there = omega arith; high_there = omega arith; ordered = λ l. absurd (omega (arith, l)) })

  pub mirrored_part_there : (s : Span) → Cells n s → (s.lo ≤ top_cell n → s.lo ≤ s.hi) → PartAbove n (part_above n (mirrored n s))
  mirrored_part_there s c o = go (dec_le s.lo s.hi)
    where
      go : Dec (s.lo ≤ s.hi) → PartAbove n (part_above n (mirrored n s))
      go (yes h) =
          rw (mirrored_some n s h)
          (part_there (record { lo = top_cell n - s.hi; hi = top_cell n - s.lo }) (record { low_there = omega arith; high_there = omega arith })
          (λ l. omega (arith, h)))
      go (no h) =
          rw (mirrored_none n s (omega arith)) (part_there (no_cells n) (record { low_there = omega arith; high_there = omega arith }) (λ l. absurd (omega (arith, l))))

  -- ---- cells put together
  pub none_cells : Cells n (no_cells n)
  none_cells = record { low_there = omega arith; high_there = omega arith }

  pub hull_cells : {a b : Span} → Cells n a → Cells n b → Cells n (hull_of a b)
  hull_cells c d = record { low_there = omega (arith, c.low_there, d.low_there); high_there = omega (arith, c.high_there, d.high_there) }

  pub turned_cells_says : (s : Span) → Cells n (turned_cells n s)
  turned_cells_says s = go (is_none n s)
    where
      go : (t : Bool) → Cells n (pick_span t (no_cells n) (record { lo = top_cell n - s.hi; hi = top_cell n - s.lo }))
      go true = none_cells
      go false = record { low_there = omega arith; high_there = omega arith }

  pub zero_cells : (x y : Bool) → Cells n (zero_if n x y)
  zero_cells true true = record { low_there = omega (arith, top_cell_says n wide); high_there = omega (arith, top_cell_says n wide) }
  zero_cells true false = none_cells
  zero_cells false y = none_cells

  -- ---- two parts above 0
  first_picked : (u k : Bool) (c : ℕ) → c ≤ top_cell n → pick_cell u (2 ^ n) (pick_cell k c (2 * ((c + 1) / 2))) ≤ top_cell n
  first_picked true k c h = omega (arith, top_cell_says n wide, half n (some_bit n wide), nar_positive n (some_bit n wide))
  first_picked false true c h = h
  first_picked false false c h = omega (arith, top_cell_says n wide, h)

  last_picked : (u k : Bool) (c : ℕ) → c ≤ top_cell n → pick_cell u (top_cell n) (pick_cell k c (2 * (c / 2))) ≤ top_cell n
  last_picked true k c h = omega arith
  last_picked false true c h = h
  last_picked false false c h = omega (arith, h)

  module _ (es : ℕ) where
    first_there : (divide : Bool) (x y : Edge) → first_cell n es divide x y ≤ top_cell n
    first_there divide x y =
        first_picked (x.unlimited || y.unlimited) (x.closed && y.closed) (result_cell n es divide x.posit y.posit)
        (cell_bounded n es wide (result_of divide (value n es x.posit) (value n es y.posit)))

    pub last_there : (divide : Bool) (x y : Edge) → last_cell n es divide x y ≤ top_cell n
    last_there divide x y =
        last_picked (x.unlimited || y.unlimited) (x.closed && y.closed) (result_cell n es divide x.posit y.posit)
        (cell_bounded n es wide (result_of divide (value n es x.posit) (value n es y.posit)))

    -- the first cell of some results is there
    pub some_first : (divide : Bool) (p q : Span) → (positive_some n es divide p q).lo ≤ top_cell n
    some_first divide p q = first_there divide (start_edge n p.lo) (first_edge n divide q)

    some_last : (divide : Bool) (p q : Span) → (positive_some n es divide p q).hi ≤ top_cell n
    some_last divide p q = last_there divide (end_edge n p.hi) (last_edge n divide q)

    pub some_cells : (divide : Bool) (p q : Span) → Cells n (positive_some n es divide p q)
    some_cells divide p q = record { low_there = omega (arith, some_first divide p q); high_there = some_last divide p q }

    pub positive_cells : (divide : Bool) (p q : Span) → Cells n (positive_results n es divide p q)
    positive_cells divide p q = go (is_none n p || is_none n q)
      where
        go : (t : Bool) → Cells n (pick_span t (no_cells n) (positive_some n es divide p q))
        go true = none_cells
        go false = some_cells divide p q

    pub either_cells : (divide : Bool) (p above below : Span) → Cells n (either_sign n es divide p above below)
    either_cells divide p above below = hull_cells (positive_cells divide p above) (turned_cells_says (positive_results n es divide p below))

    pub signed_cells : (divide : Bool) (a b : Span) → Cells n (signed_results n es divide a b)
    signed_cells divide a b =
        hull_cells (either_cells divide (part_above n a) (part_above n b) (part_above n (mirrored n b)))
        (turned_cells_says (either_sign n es divide (part_above n (mirrored n a)) (part_above n b) (part_above n (mirrored n b))))

-- ---- the results by the tests of a machine function
module _ (n c : ℕ) {z : ℕ} where
  pub start_unlimited : z ≡ 2 ^ n → c ≡ z → (start_edge n c).unlimited ≡ true
  start_unlimited e h = eq-eqb c (2 ^ n) (h ∙ e)

module _ (n es : ℕ) (divide : Bool) (x y : Edge) {r : ℕ} where
  pub first_no_left : r ≡ 2 ^ n → x.unlimited ≡ true → r ≡ first_cell n es divide x y
  first_no_left h e = rw e h

module _ (n es : ℕ) (divide : Bool) (p q : Span) {r : Span} where
  pub both_parts : r ≡ positive_some n es divide p q → p.lo ≤ top_cell n → q.lo ≤ top_cell n → r ≡ positive_results n es divide p q
  both_parts h k l = rw (le-ltb (top_cell n) p.lo k, le-ltb (top_cell n) q.lo l) h

-- the cells of the negatives
module _ (n : ℕ) (s : Span) {t : ℕ} (e : t ≡ top_cell n) where
  pub some_turned : s.lo ≤ t → record { lo = t - s.hi; hi = t - s.lo } ≡ turned_cells n s
  some_turned l = rw (le-ltb (top_cell n) s.lo (omega (arith, e, l)), e)
