-- Laws of extents: a set has one extent, an interval has its own ends for it.
use mathlib.Core.Path.{◌≡◌, refl}
use mathlib.Core.Logic.{◌↔◌, ite, if_pos}
use Prim.Native.Nat.{ℕ}
use native.Mathlib.Omega.{arith}
use Rattle.bound.specs.Order.{Order, Same, dual}
use Rattle.bound.specs.Bound.{Bound, Allows, Exact}
use Rattle.bound.specs.Extent.{Extent, empty, span, turn, SameExtent, Within, from_to, Spans, nothing, exactly, Some, some_between, normal, point}
use Rattle.bound.proofs.Bound.{upward, has_member, exact_of_same_set, exact_of_same_bound, exact_is_unique}

-- what holds over an order holds over its dual, with the ends exchanged
pub turned : (O : Order) {S : O.Number → Type 0} {u : Extent O.Number} → Spans O S u → Spans (dual O) S (turn u)
turned O (nothing h) = nothing h
turned O (exactly h k) = exactly k h

pub within_turned : (O : Order) {u : Extent O.Number} {x : O.Number} → Within O u x → Within (dual O) (turn u) x
within_turned O (from_to h k) = from_to k h

pub after_start : (O : Order) {s e : Bound O.Number} {x : O.Number} → Within O (span s e) x → Allows O s x
after_start O (from_to h k) = h

pub within_same : (O : Order) {u : Extent O.Number} {x y : O.Number} → Within O u x → Same O x y → Within O u y
within_same O (from_to {s} {e} h k) q = from_to (upward O s h q.0) (upward (dual O) e k q.1)

-- sets with the same members have the same extent
pub spans_of_same_set : (O : Order) {S T : O.Number → Type 0} {u : Extent O.Number} → ((x : O.Number) → S x ↔ T x) → Spans O S u → Spans O T u
spans_of_same_set O same (nothing h) = nothing (λ x t. h x ((same x).1 t))
spans_of_same_set O same (exactly h k) = exactly (exact_of_same_set O same h) (exact_of_same_set (dual O) same k)

-- ---- intervals
-- an interval with a member has its own start as exact bound: a number that the start allows is a member, or a member is below it
pub own_start : (O : Order) {s e : Bound O.Number} {m : O.Number} → Within O (span s e) m → Exact O (Within O (span s e)) s
own_start O {s} {e} {m} (from_to h k) =
    record {
      allowed = after_start O;
      reached = λ z l. elim (O.decide z m) [ yes p ↦ (z, from_to l (upward (dual O) e k p), O.reflexive z) | no p ↦ (m, from_to h k, O.total p) ];
    }

pub interval_spans : (O : Order) {s e : Bound O.Number} {m : O.Number} → Within O (span s e) m → Spans O (Within O (span s e)) (span s e)
interval_spans O w =
    exactly (own_start O w)
    (exact_of_same_set (dual O) (λ x. (within_turned (dual O), within_turned O)) (own_start (dual O) (within_turned O w)))

pub point_spans : (O : Order) (a : O.Number) → Spans O (λ x. Same O x a) (point a)
point_spans O a =
    spans_of_same_set O (λ x. (λ w. elim w [ from_to h k ↦ (k, h) ], λ s. from_to s.1 s.0)) (interval_spans O (from_to (O.reflexive a) (O.reflexive a)))

pub normal_spans : (O : Order) (u : Extent O.Number) → Spans O (Within O u) (normal O u)
unfolding normal
normal_spans O empty = nothing (λ x w. elim w [ ])
normal_spans O (span s e) = go (some_between O s e)
  where
    go : (d : Dec (Some O s e)) → Spans O (Within O (span s e)) (ite d (span s e) empty)
    go (yes (x, h, k)) = interval_spans O (from_to h k)
    go (no h) = nothing (λ x w. elim w [ from_to p q ↦ h (x, p, q) ])

-- an interval with a member is its own exact extent
pub normal_of_some : (O : Order) (s e : Bound O.Number) {x : O.Number} → Within O (span s e) x → normal O (span s e) ≡ span s e
unfolding normal
normal_of_some O s e {x} (from_to h k) = if_pos (some_between O s e) (x, h, k) (span s e) empty

-- ---- empty sets
abbrev pub NoMember : {B : Type 0} → (B → Type 0) → Type 0
NoMember {B} S = (x : B) → ¬ S x

-- the extent is empty exactly where there is no member
pub empty_iff_no_member : (O : Order) {S : O.Number → Type 0} {u : Extent O.Number} → Spans O S u → (u ≡ empty) ↔ NoMember S
empty_iff_no_member O (nothing h) = (λ p. h, λ k. refl)
empty_iff_no_member O (exactly f g) = (λ p. absurd (span_is_not_empty p), λ k. let (x, m) = has_member O f in absurd (k x m))
  where
    span_is_not_empty : {s e : Bound O.Number} → span s e ≡ empty → ⊥
    span_is_not_empty p = let z : ◌≡◌ {A = ℕ} 0 1 = cc in omega arith

-- an equal extent is an extent too
pub spans_of_same_extent : (O : Order) {S : O.Number → Type 0} (u v : Extent O.Number) → SameExtent O u v → Spans O S u → Spans O S v
spans_of_same_extent O empty empty s p = p
spans_of_same_extent O empty (span t f) s p = absurd s
spans_of_same_extent O (span s e) empty h p = absurd h
spans_of_same_extent O (span s e) (span t f) h (exactly p q) = exactly (exact_of_same_bound O s t h.0 p) (exact_of_same_bound (dual O) e f h.1 q)

-- ---- a set has one extent
pub extent_is_unique : (O : Order) {S : O.Number → Type 0} {u v : Extent O.Number} → Spans O S u → Spans O S v → SameExtent O u v
extent_is_unique O (nothing h) (nothing k) = tt
extent_is_unique O (nothing h) (exactly p q) = let (x, m) = has_member O p in h x m
extent_is_unique O (exactly p q) (nothing k) = let (x, m) = has_member O p in k x m
extent_is_unique O (exactly p q) (exactly p' q') = (exact_is_unique O p p', exact_is_unique (dual O) q q')
