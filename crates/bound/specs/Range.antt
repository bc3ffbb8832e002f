-- A real range is an interval whose ends stand on values of the grid or are unbounded. The answer of an operation is the smallest
-- real range that holds all its results: the one that lies inside every other that does.
use Rattle.std.specs.Prelude.{ℕ, suc, ◌-◌}
use Rattle.bound.specs.Order.{Order, Less, dual}
use Rattle.bound.specs.Bound.{Bound, map_bound}
use Rattle.bound.specs.Extent.{Extent, empty, span, Within}
use Rattle.bound.specs.Cell.{Grid, start_cell_in, end_cell_in}
use Rattle.bound.specs.End.{OnGrid, start_place, end_place, read_start, read_end, Stands}

pub record Range : Type 0 where
  pub start : Bound ℕ
  pub end : Bound ℕ

-- the ends name values that are there, of n values
pub record OnValues (n : ℕ) (r : Range) : Type 0 where
  pub start_there : OnGrid n r.start
  pub end_there : OnGrid n r.end

-- the interval of a range, and its members
abbrev pub range_extent : {O : Order} → Grid O → Range → Extent O.Number
range_extent G r = span (map_bound G.value r.start) (map_bound G.value r.end)

abbrev pub Member : {O : Order} → Grid O → Range → O.Number → Type 0
Member {O} G r = Within O (range_extent G r)

-- the first and the last cell of a range, with n values
abbrev pub low : Range → ℕ
low r = start_place r.start

abbrev pub high : ℕ → Range → ℕ
high n r = end_place n r.end

-- the three comparisons
abbrev pub Inside : {O : Order} → Grid O → Range → Range → Type 0
Inside {O} G r q = (x : O.Number) → Member G r x → Member G q x

abbrev pub Meets : {O : Order} → Grid O → Range → Range → Type 0
Meets {O} G r q = (x : O.Number) × Member G r x × Member G q x

abbrev pub Below : {O : Order} → Grid O → Range → Range → Type 0
Below {O} G r q = (x y : O.Number) → Member G r x → Member G q y → Less O x y

pub record SmallestRange {O : Order} (G : Grid O) (S : O.Number → Type 0) (r : Range) : Type 0 where
  pub there : OnValues G.count r
  pub holds : (x : O.Number) → S x → Member G r x
  pub inside : (q : Range) → OnValues G.count q → ((x : O.Number) → S x → Member G q x) → Inside G r q

-- what is promised of a computed range r for the results S: it is the smallest range that holds them, and where there is a result
-- each end stands on the exact bound or on the first value beyond it, closed exactly where a result lies on it
pub record Answers {O : Order} (G : Grid O) (S : O.Number → Type 0) (r : Range) : Type 0 where
  pub smallest : SmallestRange G S r
  pub start_stands : (x : O.Number) → S x → Stands O G.count G.value S r.start
  pub end_stands : (x : O.Number) → S x → Stands (dual O) G.count G.value S r.end

-- the range of the two cells that the exact bounds of a set reach
abbrev pub range_between : {O : Order} → Grid O → Bound O.Number → Bound O.Number → Range
range_between G s e = record { start = read_start (start_cell_in G s); end = read_end G.count (end_cell_in G e) }

-- the answer of an operation, from the extent of its results; z is the range that says "empty"
abbrev pub answer : {O : Order} → Grid O → Range → Extent O.Number → Range
answer G z empty = z
answer G z (span s e) = range_between G s e

-- negation turns the ends round, if the values come with their negatives: the k-th is the negative of the k-th from the other side
abbrev pub negate_range : ℕ → Range → Range
negate_range n r = record { start = map_bound (λ k. n - suc k) r.end; end = map_bound (λ k. n - suc k) r.start }
