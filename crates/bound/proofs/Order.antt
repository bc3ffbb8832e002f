-- Numbers that are at most one another are equal: the laws of that equality.
use Rattle.bound.specs.Order.{Order, Same}

module _ (O : Order) where
  pub same_refl : (x : O.Number) → Same O x x
  same_refl x = (O.reflexive x, O.reflexive x)

  pub same_sym : {x y : O.Number} → Same O x y → Same O y x
  same_sym h = (h.1, h.0)

  pub same_trans : {x y z : O.Number} → Same O x y → Same O y z → Same O x z
  same_trans h k = (O.transitive h.0 k.0, O.transitive k.1 h.1)
