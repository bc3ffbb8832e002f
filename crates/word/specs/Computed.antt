-- The answers of the operations on ranges as a computation: read both operands as intervals of fractions, take the exact bounds of all
-- results, find the outermost cells that they reach, and write the word of those cells.
use Rattle.std.specs.Prelude.{ℕ, zero, suc, ◌+◌}
use Rattle.exact.specs.Fraction.{Fraction}
use Rattle.bound.specs.Bound.{map_bound}
use Rattle.bound.specs.Extent.{Extent, empty, span}
use Rattle.bound.specs.Arithmetic.{sum, difference, product, quotient}
use Rattle.bound.specs.Cell.{cell_among, start_of_bound, end_of_bound}
use Rattle.bound.specs.Fractions.{fractions}
use Rattle.bound.specs.FractionArithmetic.{fraction_arithmetic}
use Rattle.posit.specs.Value.{value}
use Rattle.word.specs.Word.{start_of, end_of}
use Rattle.word.specs.Numbered.{count, value_at}
use Rattle.word.specs.Spans.{top_cell, word_at}

-- the cell of a fraction, found among the values of all finite posits
unfoldable pub cell_of : ℕ → ℕ → Fraction → ℕ
unfolding cell_among
cell_of n es x = cell_among fractions (value_at n es) (count n) x

-- a real range as an interval of fractions, as it is written: it may have no member
abbrev pub extent_of : ℕ → ℕ → ℕ → Extent Fraction
extent_of n es w = span (map_bound (value n es) (start_of n w)) (map_bound (value n es) (end_of n w))

-- the exact bounds of all results, by the operation number: 0 add, 1 subtract, 2 multiply, else divide
unfoldable pub exact_extent : ℕ → Extent Fraction → Extent Fraction → Extent Fraction
unfolding sum difference product quotient
exact_extent zero u v = sum fraction_arithmetic u v
exact_extent (suc zero) u v = difference fraction_arithmetic u v
exact_extent (suc (suc zero)) u v = product fraction_arithmetic u v
exact_extent (suc (suc (suc op))) u v = quotient fraction_arithmetic u v

-- the first and the last cell that results with these bounds reach; of no results, the first lies above the last
abbrev pub low_cell : ℕ → ℕ → Extent Fraction → ℕ
low_cell n es empty = top_cell n + 1
low_cell n es (span s e) = start_of_bound (map_bound (cell_of n es) s)

abbrev pub high_cell : ℕ → ℕ → Extent Fraction → ℕ
high_cell n es empty = 0
high_cell n es (span s e) = end_of_bound (count n) (map_bound (cell_of n es) e)

-- the word of the cells that an extent reaches
abbrev pub word_of_extent : ℕ → ℕ → Extent Fraction → ℕ
word_of_extent n es u = word_at n (record { lo = low_cell n es u; hi = high_cell n es u })

-- what operation op answers for the real ranges a and b
unfoldable pub answer_of : ℕ → ℕ → ℕ → ℕ → ℕ → ℕ
unfolding exact_extent cell_of
answer_of n es op a b = word_of_extent n es (exact_extent op (extent_of n es a) (extent_of n es b))
