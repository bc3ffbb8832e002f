-- Products and quotients of ranges as a computation on cells: each operand is split into its part below 0, the number 0 and its part above 0;
-- the results of two parts above 0 reach from the result of two of their ends to that of the other two, a minus turns cells round, and the
-- results of all parts are put together.
use Rattle.std.specs.Prelude.{Bool, true, false, ◌&&◌, ◌||◌, ℕ, ◌+◌, ◌-◌, ◌*◌, ◌/◌, ◌%◌, ◌^◌, ◌≤◌, ◌<◌, ◌≡◌, min, max, eqb, ltb, leb}
use Rattle.posit.specs.Format.{nar}
use Rattle.word.specs.declared.inner.span.Span.{Span}
use Rattle.word.specs.Numbered.{pattern_at}
use Rattle.word.specs.Spans.{top_cell, no_cells, mirrored}
use Rattle.cell.specs.Cells.{zero_cell, result_cell}
use Rattle.signs.specs.declared.inner.edge.Edge.{Edge}

abbrev pub pick_cell : Bool → ℕ → ℕ → ℕ
pick_cell true a b = a
pick_cell false a b = b

abbrev pub pick_span : Bool → Span → Span → Span
pick_span true a b = a
pick_span false a b = b

-- ---- the ends of a part above 0: each is no limit among the numbers above 0, or a posit that is a member itself or not
-- an end by its cell: a start in the gap above 0 and an end in the topmost gap are no limit among the numbers above 0
abbrev pub start_edge : ℕ → ℕ → Edge
start_edge n c = record { unlimited = eqb c (2 ^ n); closed = eqb (c % 2) 1; posit = pattern_at n ((c - 1) / 2) }

abbrev pub end_edge : ℕ → ℕ → Edge
end_edge n c = record { unlimited = eqb c (top_cell n); closed = eqb (c % 2) 1; posit = pattern_at n (c / 2) }

-- a cell above that of 0
pub record CellAbove (n c : ℕ) : Type 0 where
  pub above : 2 ^ n ≤ c
  pub there : c ≤ top_cell n

-- no limit, or a posit above 0
abbrev pub EdgeAbove : ℕ → Edge → Type 0
EdgeAbove n e = e.unlimited ≡ false → (0 < e.posit) × (e.posit < nar n)

-- the first cell of the results that start at two ends, and the last of those that end there; open unless both are closed
abbrev pub first_cell : ℕ → ℕ → Bool → Edge → Edge → ℕ
first_cell n es divide x y =
    pick_cell (x.unlimited || y.unlimited) (2 ^ n)
    (pick_cell (x.closed && y.closed) (result_cell n es divide x.posit y.posit) (2 * ((result_cell n es divide x.posit y.posit + 1) / 2)))

abbrev pub last_cell : ℕ → ℕ → Bool → Edge → Edge → ℕ
last_cell n es divide x y =
    pick_cell (x.unlimited || y.unlimited) (top_cell n)
    (pick_cell (x.closed && y.closed) (result_cell n es divide x.posit y.posit) (2 * (result_cell n es divide x.posit y.posit / 2)))

-- ---- parts and pieces
-- no cell at all, as a test
abbrev pub is_none : ℕ → Span → Bool
is_none n s = ltb (top_cell n) s.lo

abbrev pub part_above : ℕ → Span → Span
part_above n s = pick_span (ltb s.hi (2 ^ n)) (no_cells n) (record { lo = max s.lo (2 ^ n); hi = s.hi })

-- the cells of a part above 0, or none
pub record PartAbove (n : ℕ) (s : Span) : Type 0 where
  pub low_above : 2 ^ n ≤ s.lo
  pub low_there : s.lo ≤ top_cell n + 1
  pub high_there : s.hi ≤ top_cell n
  pub ordered : s.lo ≤ top_cell n → s.lo ≤ s.hi

-- the end of the right operand where the results start, and the one where they end: a quotient starts at the start over the end
abbrev pub first_edge : ℕ → Bool → Span → Edge
first_edge n true q = end_edge n q.hi
first_edge n false q = start_edge n q.lo

abbrev pub last_edge : ℕ → Bool → Span → Edge
last_edge n true q = start_edge n q.lo
last_edge n false q = end_edge n q.hi

-- the results of two parts above 0, where there are any
abbrev pub positive_some : ℕ → ℕ → Bool → Span → Span → Span
positive_some n es divide p q =
    record {
      lo = first_cell n es divide (start_edge n p.lo) (first_edge n divide q);
      hi = last_cell n es divide (end_edge n p.hi) (last_edge n divide q);
    }

abbrev pub positive_results : ℕ → ℕ → Bool → Span → Span → Span
positive_results n es divide p q = pick_span (is_none n p || is_none n q) (no_cells n) (positive_some n es divide p q)

-- the least and the greatest cell of two intervals
abbrev pub hull_of : Span → Span → Span
hull_of a b = record { lo = min a.lo b.lo; hi = max a.hi b.hi }

-- the cells of the negatives
abbrev pub turned_cells : ℕ → Span → Span
turned_cells n s = pick_span (is_none n s) (no_cells n) (record { lo = top_cell n - s.hi; hi = top_cell n - s.lo })

-- the results of a part above 0 and the numbers other than 0 of an operand, given by its two parts
abbrev pub either_sign : ℕ → ℕ → Bool → Span → Span → Span → Span
either_sign n es divide p above below = hull_of (positive_results n es divide p above) (turned_cells n (positive_results n es divide p below))

-- the results of the numbers other than 0 of two operands
abbrev pub signed_results : ℕ → ℕ → Bool → Span → Span → Span
signed_results n es divide a b =
    hull_of (either_sign n es divide (part_above n a) (part_above n b) (part_above n (mirrored n b)))
    (turned_cells n (either_sign n es divide (part_above n (mirrored n a)) (part_above n b) (part_above n (mirrored n b))))

-- ---- the number 0
abbrev pub has_zero : ℕ → Span → Bool
has_zero n s = leb s.lo (zero_cell n) && leb (zero_cell n) s.hi

abbrev pub has_other : ℕ → Span → Bool
has_other n s = leb (2 ^ n) s.hi || ltb s.lo (zero_cell n)

abbrev pub zero_if : ℕ → Bool → Bool → Span
zero_if n x y = pick_span (x && y) (record { lo = zero_cell n; hi = zero_cell n }) (no_cells n)

-- ---- all results
abbrev pub quotient_cells : ℕ → ℕ → Span → Span → Span
quotient_cells n es a b = hull_of (signed_results n es true a b) (zero_if n (has_zero n a) (has_other n b))

abbrev pub product_cells : ℕ → ℕ → Span → Span → Span
product_cells n es a b =
    hull_of (hull_of (signed_results n es false a b) (zero_if n (has_zero n a) (has_other n b))) (zero_if n (leb a.lo a.hi) (has_zero n b))

-- those of all quotients, or of all products
abbrev pub result_cells : ℕ → ℕ → Bool → Span → Span → Span
result_cells n es true a b = quotient_cells n es a b
result_cells n es false a b = product_cells n es a b
