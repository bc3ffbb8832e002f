-- How far a set of numbers reaches: it is empty, or it has an exact bound on each side.
use Rattle.std.proofs.Math.Logic.{ite}
use Rattle.bound.specs.Order.{Order, dual}
use Rattle.bound.specs.Bound.{Bound, none, closed_at, open_at, map_bound, Allows, allows?, allows_some, Exact, SameBound}
use Rattle.bound.specs.Hull.{wider}

pub data Extent (A : Type 0) : Type 0 where
  empty : Extent A
  span : Bound A → Bound A → Extent A

-- the extent as it looks over the dual order
abbrev pub turn : {A : Type 0} → Extent A → Extent A
turn empty = empty
turn (span s e) = span e s

abbrev pub map_extent : {A B : Type 0} → (A → B) → Extent A → Extent B
map_extent f empty = empty
map_extent f (span s e) = span (map_bound f s) (map_bound f e)

-- x is one of the numbers from s to e
pub data Within (O : Order) : Extent O.Number → O.Number → Type 0 where
  from_to : {s e : Bound O.Number} {x : O.Number} → Allows O s x → Allows (dual O) e x → Within O (span s e) x

unfoldable pub within? : (O : Order) (u : Extent O.Number) (x : O.Number) → Dec (Within O u x)
unfolding allows?
within? O empty x = no (λ w. elim w [ ])
within? O (span s e) x =
    elim (allows? O s x) [
      | yes h ↦ elim (allows? (dual O) e x) [ yes k ↦ yes (from_to h k) | no k ↦ no (λ w. elim w [ from_to p q ↦ k q ]) ]
      | no h ↦ no (λ w. elim w [ from_to p q ↦ h p ])
    ]

-- u is the exact extent of the set S
pub data Spans (O : Order) (S : O.Number → Type 0) : Extent O.Number → Type 0 where
  nothing : ((x : O.Number) → ¬ S x) → Spans O S empty
  exactly : {s e : Bound O.Number} → Exact O S s → Exact (dual O) S e → Spans O S (span s e)

-- two extents are both empty, or have the same bounds
abbrev pub SameExtent : (O : Order) → Extent O.Number → Extent O.Number → Type 0
SameExtent O empty empty = Unit
SameExtent O empty (span t f) = ⊥
SameExtent O (span s e) empty = ⊥
SameExtent O (span s e) (span t f) = SameBound O s t × SameBound (dual O) e f

-- ---- an interval as it is written may be empty: that is decided, and `normal` gives its exact extent
abbrev pub Some : (O : Order) → Bound O.Number → Bound O.Number → Type 0
Some O s e = (x : O.Number) × Allows O s x × Allows (dual O) e x

unfoldable pub closed_to_open : (O : Order) (a b : O.Number) → Dec (Some O (closed_at a) (open_at b))
closed_to_open O a b =
    elim (O.decide b a) [ yes h ↦ no (λ w. w.2 (O.transitive h w.1)) | no h ↦ yes (a, O.reflexive a, h) ]

unfoldable pub some_between : (O : Order) (s e : Bound O.Number) → Dec (Some O s e)
unfolding closed_to_open allows_some
some_between O none e = let (x, h) = allows_some (dual O) e in yes (x, tt, h)
some_between O (closed_at a) none = yes (a, O.reflexive a, tt)
some_between O (closed_at a) (closed_at b) =
    elim (O.decide a b) [ yes h ↦ yes (a, O.reflexive a, h) | no h ↦ no (λ w. h (O.transitive w.1 w.2)) ]
some_between O (closed_at a) (open_at b) = closed_to_open O a b
some_between O (open_at a) none = let (x, h) = O.higher a in yes (x, h, tt)
some_between O (open_at a) (closed_at b) =
    elim (closed_to_open (dual O) b a) [ yes (x, h, k) ↦ yes (x, k, h) | no h ↦ no (λ w. h (w.0, w.2, w.1)) ]
some_between O (open_at a) (open_at b) =
    elim (O.decide b a) [ yes h ↦ no (λ w. w.2 (O.transitive h (O.total w.1))) | no h ↦ yes (O.between h) ]

unfoldable pub normal : (O : Order) → Extent O.Number → Extent O.Number
unfolding some_between
normal O empty = empty
normal O (span s e) = ite (some_between O s e) (span s e) empty

abbrev pub point : {A : Type 0} → A → Extent A
point a = span (closed_at a) (closed_at a)

-- the members of either of two sets
pub data Either {A : Type 0} (S T : A → Type 0) (x : A) : Type 0 where
  in_first : S x → Either S T x
  in_second : T x → Either S T x

-- the hull: the extent of either of two sets
unfoldable pub hull : (O : Order) → Extent O.Number → Extent O.Number → Extent O.Number
unfolding wider
hull O empty v = v
hull O (span s e) empty = span s e
hull O (span s e) (span t f) = span (wider O s t) (wider (dual O) e f)
