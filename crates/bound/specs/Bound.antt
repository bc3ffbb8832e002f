-- A bound of a set on one side: there is none, or it is a number that is allowed itself (closed) or not (open).
-- All is said of the lower side; the upper side is the same over the dual order.
use Rattle.bound.specs.Order.{Order, Less, Same}

pub data Bound (A : Type 0) : Type 0 where
  none : Bound A
  closed_at : A → Bound A
  open_at : A → Bound A

abbrev pub map_bound : {A B : Type 0} → (A → B) → Bound A → Bound B
map_bound f none = none
map_bound f (closed_at a) = closed_at (f a)
map_bound f (open_at a) = open_at (f a)

-- the number x is on the allowed side of the bound
abbrev pub Allows : (O : Order) → Bound O.Number → O.Number → Type 0
Allows O none x = Unit
Allows O (closed_at a) x = O.◌≼◌ a x
Allows O (open_at a) x = Less O a x

unfoldable pub allows? : (O : Order) (b : Bound O.Number) (x : O.Number) → Dec (Allows O b x)
allows? O none x = yes tt
allows? O (closed_at a) x = O.decide a x
allows? O (open_at a) x = elim (O.decide x a) [ yes h ↦ no (λ k. k h) | no h ↦ yes h ]

-- every bound allows some number
unfoldable pub allows_some : (O : Order) (b : Bound O.Number) → (x : O.Number) × Allows O b x
allows_some O none = (O.some_number, tt)
allows_some O (closed_at a) = (a, O.reflexive a)
allows_some O (open_at a) = O.higher a

-- b is the exact lower bound of the set S: it allows every member, and at or below whatever it allows there is a member
pub record Exact (O : Order) (S : O.Number → Type 0) (b : Bound O.Number) : Type 0 where
  pub allowed : {x : O.Number} → S x → Allows O b x
  pub reached : (z : O.Number) → Allows O b z → (x : O.Number) × S x × O.◌≼◌ x z

-- the exact bound as a number: the greatest number with no member of S below it
pub record GreatestBelow (O : Order) (S : O.Number → Type 0) (a : O.Number) : Type 0 where
  pub none_below : {x : O.Number} → S x → O.◌≼◌ a x
  pub greatest : (c : O.Number) → ((x : O.Number) → S x → O.◌≼◌ c x) → O.◌≼◌ c a

-- two bounds are of one kind and stand on equal numbers
abbrev pub SameBound : (O : Order) → Bound O.Number → Bound O.Number → Type 0
SameBound O none none = Unit
SameBound O none (closed_at b) = ⊥
SameBound O none (open_at b) = ⊥
SameBound O (closed_at a) none = ⊥
SameBound O (closed_at a) (closed_at b) = Same O a b
SameBound O (closed_at a) (open_at b) = ⊥
SameBound O (open_at a) none = ⊥
SameBound O (open_at a) (closed_at b) = ⊥
SameBound O (open_at a) (open_at b) = Same O a b
