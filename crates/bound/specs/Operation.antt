-- An operation that increases in both arguments, can be cancelled and can be solved in each: all that sums, differences, products and quotients need.
use Rattle.bound.specs.Order.{Order, Same}
use Rattle.bound.specs.Bound.{Bound, none, closed_at, open_at}
use Rattle.bound.specs.Extent.{Extent, empty, span}

pub record Increasing (P Q R : Order) (f : P.Number → Q.Number → R.Number) : Type 0 where
  pub increases : {x x' : P.Number} {y y' : Q.Number} → P.◌≼◌ x x' → Q.◌≼◌ y y' → R.◌≼◌ (f x y) (f x' y')
  pub cancel_right : {x x' : P.Number} (y : Q.Number) → R.◌≼◌ (f x y) (f x' y) → P.◌≼◌ x x'
  pub cancel_left : (x : P.Number) {y y' : Q.Number} → R.◌≼◌ (f x y) (f x y') → Q.◌≼◌ y y'
  pub solve_left : (y : Q.Number) (z : R.Number) → (x : P.Number) × Same R (f x y) z
  pub solve_right : (x : P.Number) (z : R.Number) → (y : Q.Number) × Same R (f x y) z

-- z is the result of f on a member of X and a member of Y
pub record Results {A B : Type 0} (R : Order) (f : A → B → R.Number) (X : A → Type 0) (Y : B → Type 0) (z : R.Number) : Type 0 where
  pub left : A
  pub right : B
  pub left_member : X left
  pub right_member : Y right
  pub value : Same R z (f left right)

-- the exact bound of all results, from the two bounds
unfoldable pub both : {A B C : Type 0} → (A → B → C) → Bound A → Bound B → Bound C
both f none b = none
both f (closed_at a) none = none
both f (closed_at a) (closed_at b) = closed_at (f a b)
both f (closed_at a) (open_at b) = open_at (f a b)
both f (open_at a) none = none
both f (open_at a) (closed_at b) = open_at (f a b)
both f (open_at a) (open_at b) = open_at (f a b)

-- and the extent of all results
unfoldable pub combine : {A B C : Type 0} → (A → B → C) → Extent A → Extent B → Extent C
unfolding both
combine f empty v = empty
combine f (span s e) empty = empty
combine f (span s e) (span t d) = span (both f s t) (both f e d)
