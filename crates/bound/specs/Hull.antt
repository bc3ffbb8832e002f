-- The wider of two bounds is the one that allows all that the other allows; the narrower is the other one.
-- An open bound meets an equal closed one here, and the closed one is wider.
use Rattle.std.specs.Prelude.{◌⊎◌}
use Rattle.std.proofs.Math.Logic.{inl, inr, ⊎_swap}
use Rattle.bound.specs.Order.{Order}
use Rattle.bound.specs.Bound.{Bound, none, closed_at, open_at, Allows}

-- b allows whatever c allows
pub record Covers (O : Order) (b c : Bound O.Number) : Type 0 where
  pub covers : (x : O.Number) → Allows O c x → Allows O b x

module _ (O : Order) where
  unfoldable pub closed_or_open : (a b : O.Number) → Covers O (closed_at a) (open_at b) ⊎ Covers O (open_at b) (closed_at a)
  closed_or_open a b =
      elim (O.decide a b)
      [ yes h ↦ inl record { covers = λ x k. O.transitive h (O.total k) } | no h ↦ inr record { covers = λ x k l. h (O.transitive k l) } ]

  unfoldable pub compare_bounds : (b c : Bound O.Number) → Covers O b c ⊎ Covers O c b
  unfolding closed_or_open ⊎_swap
  compare_bounds none c = inl record { covers = λ x k. tt }
  compare_bounds (closed_at a) none = inr record { covers = λ x k. tt }
  compare_bounds (closed_at a) (closed_at b) =
      elim (O.decide a b)
      [ yes h ↦ inl record { covers = λ x k. O.transitive h k } | no h ↦ inr record { covers = λ x k. O.transitive (O.total h) k } ]
  compare_bounds (closed_at a) (open_at b) = closed_or_open a b
  compare_bounds (open_at a) none = inr record { covers = λ x k. tt }
  compare_bounds (open_at a) (closed_at b) = ⊎_swap (closed_or_open b a)
  compare_bounds (open_at a) (open_at b) =
      elim (O.decide a b)
      [ yes h ↦ inl record { covers = λ x k l. k (O.transitive l h) } | no h ↦ inr record { covers = λ x k l. k (O.transitive l (O.total h)) } ]

  unfoldable pub wider : Bound O.Number → Bound O.Number → Bound O.Number
  unfolding compare_bounds
  wider b c = elim (compare_bounds b c) [ inl h ↦ b | inr h ↦ c ]

  unfoldable pub narrower : Bound O.Number → Bound O.Number → Bound O.Number
  unfolding compare_bounds
  narrower b c = elim (compare_bounds b c) [ inl h ↦ c | inr h ↦ b ]
