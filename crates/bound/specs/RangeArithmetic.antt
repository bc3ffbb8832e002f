-- The operations on ranges: the smallest range of all exact results. z is the range that says "empty".
use Rattle.bound.specs.Arithmetic.{Arithmetic, order_of, sum, difference, product, quotient, product_plus}
use Rattle.bound.specs.Cell.{Grid}
use Rattle.bound.specs.Range.{Range, range_extent, answer}

module _ (A : Arithmetic) (G : Grid (order_of A)) (z : Range) where
  abbrev pub add_ranges : Range → Range → Range
  add_ranges a b = answer G z (sum A (range_extent G a) (range_extent G b))

  abbrev pub subtract_ranges : Range → Range → Range
  subtract_ranges a b = answer G z (difference A (range_extent G a) (range_extent G b))

  abbrev pub multiply_ranges : Range → Range → Range
  multiply_ranges a b = answer G z (product A (range_extent G a) (range_extent G b))

  abbrev pub divide_ranges : Range → Range → Range
  divide_ranges a b = answer G z (quotient A (range_extent G a) (range_extent G b))

  abbrev pub multiply_add_ranges : Range → Range → Range → Range
  multiply_add_ranges a b c = answer G z (product_plus A (range_extent G a) (range_extent G b) (range_extent G c))
