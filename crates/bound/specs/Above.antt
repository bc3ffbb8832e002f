-- The bounds of a part above a given number, such as the positive part, as they are among the numbers above it, and back among all.
-- There "no lower bound" is the same as "open at the given number" among all: that is all that 0 times unbounded and 1 over 0 need.
use Rattle.std.proofs.Math.Logic.{ite}
use Rattle.bound.specs.Order.{Order, Same}
use Rattle.bound.specs.Bound.{Bound, none, closed_at, open_at}
use Rattle.bound.specs.Hull.{narrower}
use Rattle.bound.specs.Extent.{Extent, empty, span, some_between}

-- z is the value of f at a member of S
pub record Image {A : Type 0} (R : Order) (f : A → R.Number) (S : A → Type 0) (z : R.Number) : Type 0 where
  pub source : A
  pub member : S source
  pub value : Same R z (f source)

module _ (O : Order) (c : O.Number) where
  -- a bound at or below c is none above it
  unfoldable pub bound_above : Bound O.Number → Bound O.Number
  bound_above none = none
  bound_above (closed_at a) = ite (O.decide a c) none (closed_at a)
  bound_above (open_at a) = ite (O.decide a c) none (open_at a)

  -- the part of an interval above c: empty, or with its bounds as they are there
  unfoldable pub part_above : Extent O.Number → Extent O.Number
  unfolding bound_above some_between narrower
  part_above empty = empty
  part_above (span s e) = ite (some_between O (narrower O s (open_at c)) e) (span (bound_above s) (bound_above e)) empty

  -- no start above c is a start open at c
  unfoldable pub start_back : Bound O.Number → Bound O.Number
  start_back none = open_at c
  start_back (closed_at a) = closed_at a
  start_back (open_at a) = open_at a

  unfoldable pub extent_back : Extent O.Number → Extent O.Number
  unfolding start_back
  extent_back empty = empty
  extent_back (span s e) = span (start_back s) e
