-- Numbers with a zero and a sign, and the extent of the results of an operation put together from the signs of its operands.
-- The operation is known on positive numbers and is odd in each argument; the four pairs of signs are two doublings of one piece.
use Rattle.std.proofs.Math.Logic.{ite}
use Rattle.bound.specs.Order.{Order, Less, Same, above}
use Rattle.bound.specs.Bound.{map_bound}
use Rattle.bound.specs.Extent.{Extent, empty, span, within?, hull, point}
use Rattle.bound.specs.Above.{part_above, extent_back}

pub record Numbers : Type 1 where
  pub order : Order
  pub zero : order.Number
  pub neg : order.Number → order.Number
  pub neg_turns : {x y : order.Number} → order.◌≼◌ x y → order.◌≼◌ (neg y) (neg x)
  pub neg_neg : (x : order.Number) → Same order (neg (neg x)) x
  pub neg_zero : Same order (neg zero) zero

abbrev pub Num : Numbers → Type 0
Num N = N.order.Number

module _ (N : Numbers) where
  abbrev pub Zero : Num N → Type 0
  Zero x = Same N.order x N.zero

  abbrev pub Positive : Num N → Type 0
  Positive x = Less N.order N.zero x

  abbrev pub NonZero : Num N → Type 0
  NonZero x = ¬ Same N.order x N.zero

  abbrev pub positive : Order
  positive = above N.order N.zero

-- an operation on numbers that is positive on positive numbers, odd in each argument, and 0 at 0 (the right argument is never 0)
pub record SignedOperation (N : Numbers) (g : Num N → Num N → Num N) : Type 0 where
  pub keeps_positive : {x y : Num N} → Positive N x → Positive N y → Positive N (g x y)
  pub odd_left : (x y : Num N) → NonZero N y → Same N.order (g (N.neg x) y) (N.neg (g x y))
  pub odd_right : (x y : Num N) → NonZero N y → Same N.order (g x (N.neg y)) (N.neg (g x y))
  pub zero_left : (x y : Num N) → Zero N x → NonZero N y → Zero N (g x y)

-- the operation among the positive numbers
abbrev pub on_positive : (N : Numbers) {g : Num N → Num N → Num N} → SignedOperation N g → (positive N).Number → (positive N).Number → (positive N).Number
on_positive N {g} G p q = (g p.0 q.0, G.keeps_positive p.1 q.1)

module _ (N : Numbers) where
  unfoldable pub negate : Extent (Num N) → Extent (Num N)
  negate empty = empty
  negate (span s e) = span (map_bound N.neg e) (map_bound N.neg s)

  -- from the results for positive arguments to those for all arguments other than 0
  unfoldable pub both_signs : (Extent (Num N) → Extent (Num N)) → Extent (Num N) → Extent (Num N)
  unfolding hull negate
  both_signs f u = hull N.order (f u) (negate (f (negate u)))

  -- the positive part, with its bounds as they are among the positive numbers, and back
  unfoldable pub positive_part : Extent (Num N) → Extent (Num N)
  unfolding part_above
  positive_part = part_above N.order N.zero

  unfoldable pub among_all : Extent (Num N) → Extent (Num N)
  unfolding extent_back
  among_all = extent_back N.order N.zero

  -- the members other than 0, and the member 0
  unfoldable pub nonzero_part : Extent (Num N) → Extent (Num N)
  unfolding both_signs among_all positive_part
  nonzero_part = both_signs (λ u. among_all (positive_part u))

  unfoldable pub zero_part : Extent (Num N) → Extent (Num N)
  unfolding within?
  zero_part u = ite (within? N.order u N.zero) (point N.zero) empty

  -- 0 if there is a member in each of two sets
  unfoldable pub zero_extent_if : Extent (Num N) → Extent (Num N) → Extent (Num N)
  zero_extent_if empty v = empty
  zero_extent_if (span s e) empty = empty
  zero_extent_if (span s e) (span t d) = point N.zero

  -- all results with a right argument other than 0, from those on positive numbers
  unfoldable pub by_signs : (Extent (Num N) → Extent (Num N) → Extent (Num N)) → Extent (Num N) → Extent (Num N) → Extent (Num N)
  unfolding hull both_signs among_all positive_part zero_extent_if zero_part nonzero_part
  by_signs f u v =
      hull N.order (both_signs (λ x. both_signs (λ y. among_all (f (positive_part x) (positive_part y))) v) u)
      (zero_extent_if (zero_part u) (nonzero_part v))
