-- What the inner functions that find the cells of exact numbers say.
use Rattle.std.specs.Prelude.{◌≡◌, Bool, true, false, ◌||◌, ℕ, zero, suc, ◌+◌, ◌-◌, ◌%◌, ◌^◌, ltb}
use Rattle.exact.specs.Fraction.{Fraction, ◌≈◌, ◌+ᶠ◌, ◌*ᶠ◌, ◌/ᶠ◌}
use Rattle.bound.specs.Bound.{Bound, map_bound}
use Rattle.bound.specs.Operation.{both}
use Rattle.bound.specs.Cell.{start_of_bound, end_of_bound}
use Rattle.bound.specs.End.{read_start, read_end}
use Rattle.posit.specs.Value.{value}
use Rattle.posit.specs.Magnitudes.{Knows, with_signᶠ}
use Rattle.code.specs.Code.{IsCode, code_value}
use Rattle.posit.specs.declared.inner.magnitude.Magnitude.{Magnitude}
use Rattle.posit.specs.declared.inner.signed.Signed.{Signed}
use Rattle.word.specs.Word.{tiles}
use Rattle.word.specs.Numbered.{count, value_at}
use Rattle.word.specs.declared.inner.span.Span.{Span}
use Rattle.word.specs.Spans.{top_cell, no_cells}
use Rattle.word.specs.Computed.{cell_of}

-- whatever magnitude x knows, with the sign r is its cell
abbrev pub CellEach : ℕ → ℕ → Bool → Magnitude → ℕ → Type 0
CellEach n es negative x r = (z : Fraction) → Knows z x → r ≡ cell_of n es (with_signᶠ negative z)

-- the cell of a number above 0 whose floor among the patterns one bit longer is L, and which is L's value or not
abbrev gap_above : ℕ → Bool → ℕ
gap_above zero true = 0
gap_above zero false = 1
gap_above (suc odd) exact = 0

abbrev pub cell_from : ℕ → ℕ → Bool → ℕ
cell_from n L exact = 2 ^ n - 1 + L + gap_above (L % 2) exact

-- the cell of 0; the cells above it begin at 2^n
abbrev pub zero_cell : ℕ → ℕ
zero_cell n = 2 ^ n - 1

-- a quotient, or a product
abbrev pub result_of : Bool → Fraction → Fraction → Fraction
result_of true x y = x /ᶠ y
result_of false x y = x *ᶠ y

-- the cell of the exact result of two posits
abbrev pub result_cell : ℕ → ℕ → Bool → ℕ → ℕ → ℕ
result_cell n es divide p q = cell_of n es (result_of divide (value n es p) (value n es q))

-- the cell c, or that of the negatives
abbrev pub cell_with_sign : ℕ → Bool → ℕ → ℕ
cell_with_sign n true c = top_cell n - c
cell_with_sign n false c = c

-- the tile of a step above 0, or that of the negative
abbrev pub tile_with_sign : ℕ → Bool → ℕ → ℕ
tile_with_sign n true step = tiles n - step
tile_with_sign n false step = step

-- a finite posit other than 0 as a sign and the code of its size
pub record SignedOf (n es p : ℕ) (r : Signed ℕ) : Type 0 where
  pub code : IsCode es r.size
  pub says : with_signᶠ r.negative (code_value 52 r.size) ≈ value n es p

-- ---- sums: the bounds that stand at a start and at an end cell, and the outermost cells of all sums between them
abbrev pub start_at : ℕ → ℕ → ℕ → Bound Fraction
start_at n es c = map_bound (value_at n es) (read_start c)

abbrev pub end_at : ℕ → ℕ → ℕ → Bound Fraction
end_at n es c = map_bound (value_at n es) (read_end (count n) c)

abbrev pub sum_start : ℕ → ℕ → ℕ → ℕ → ℕ
sum_start n es x y = start_of_bound (map_bound (cell_of n es) (both ◌+ᶠ◌ (start_at n es x) (start_at n es y)))

abbrev pub sum_end : ℕ → ℕ → ℕ → ℕ → ℕ
sum_end n es x y = end_of_bound (count n) (map_bound (cell_of n es) (both ◌+ᶠ◌ (end_at n es x) (end_at n es y)))

-- the outermost cells of all sums of a member of each operand; none where one has no member
abbrev pick_span : Bool → Span → Span → Span
pick_span true a b = a
pick_span false a b = b

abbrev pub sum_cells : ℕ → ℕ → Span → Span → Span
sum_cells n es x y =
    pick_span (ltb x.hi x.lo || ltb y.hi y.lo) (no_cells n)
    (record { lo = sum_start n es x.lo y.lo; hi = sum_end n es x.hi y.hi })
