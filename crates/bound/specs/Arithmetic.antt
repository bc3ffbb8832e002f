-- The four operations and a·b + c on extents: from the extents of the operands, the exact bounds of all results.
use Rattle.bound.specs.Order.{Order, dual}
use Rattle.bound.specs.Extent.{Extent, turn, normal, hull}
use Rattle.bound.specs.Operation.{Increasing, combine}
use Rattle.bound.specs.Sign.{Numbers, Zero, positive, SignedOperation, on_positive, zero_part, zero_extent_if, by_signs}

-- numbers with the four operations; what a quotient is where the divisor is 0 is not asked
pub record Arithmetic : Type 1 where
  pub numbers : Numbers
  pub add : numbers.order.Number → numbers.order.Number → numbers.order.Number
  pub subtract : numbers.order.Number → numbers.order.Number → numbers.order.Number
  pub multiply : numbers.order.Number → numbers.order.Number → numbers.order.Number
  pub divide : numbers.order.Number → numbers.order.Number → numbers.order.Number
  pub add_increasing : Increasing numbers.order numbers.order numbers.order add
  pub subtract_increasing : Increasing numbers.order (dual numbers.order) numbers.order subtract
  pub multiply_signed : SignedOperation numbers multiply
  pub multiply_increasing : Increasing (positive numbers) (positive numbers) (positive numbers) (on_positive numbers multiply_signed)
  pub multiply_zero : (x y : numbers.order.Number) → Zero numbers y → Zero numbers (multiply x y)
  pub divide_signed : SignedOperation numbers divide
  pub divide_increasing : Increasing (positive numbers) (dual (positive numbers)) (positive numbers) (on_positive numbers divide_signed)

abbrev pub Number : Arithmetic → Type 0
Number A = A.numbers.order.Number

abbrev pub order_of : Arithmetic → Order
order_of A = A.numbers.order

module _ (A : Arithmetic) where
  unfoldable pub sum : Extent (Number A) → Extent (Number A) → Extent (Number A)
  unfolding combine normal
  sum u v = combine A.add (normal (order_of A) u) (normal (order_of A) v)

  unfoldable pub difference : Extent (Number A) → Extent (Number A) → Extent (Number A)
  unfolding combine normal
  difference u v = combine A.subtract (normal (order_of A) u) (turn (normal (order_of A) v))

  unfoldable pub quotient : Extent (Number A) → Extent (Number A) → Extent (Number A)
  unfolding combine by_signs
  quotient = by_signs A.numbers (λ x y. combine A.divide x (turn y))

  unfoldable pub product : Extent (Number A) → Extent (Number A) → Extent (Number A)
  unfolding combine hull by_signs zero_extent_if normal zero_part
  product u v =
      hull (order_of A) (by_signs A.numbers (combine A.multiply) u v)
      (zero_extent_if A.numbers (normal (order_of A) u) (zero_part A.numbers v))

  unfoldable pub product_plus : Extent (Number A) → Extent (Number A) → Extent (Number A) → Extent (Number A)
  unfolding combine product normal
  product_plus u v w = combine A.add (product u v) (normal (order_of A) w)
