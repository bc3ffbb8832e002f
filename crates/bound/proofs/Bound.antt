-- Laws of exact bounds: a set has at most one, it is the greatest number with no member below it, and a closed one is attained.
use Rattle.bound.specs.Order.{Order, Same}
use Rattle.bound.specs.Bound.{Bound, none, closed_at, open_at, Allows, allows_some, Exact, GreatestBelow, SameBound}
use Rattle.bound.specs.Hull.{Covers}
use mathlib.Core.Logic.{◌↔◌}

module _ (O : Order) where
  -- what a bound allows it allows from there upward
  pub upward : (b : Bound O.Number) {x y : O.Number} → Allows O b x → O.◌≼◌ x y → Allows O b y
  upward none h k = tt
  upward (closed_at a) h k = O.transitive h k
  upward (open_at a) h k = λ l. h (O.transitive k l)

  -- so a set with an exact bound has a member
  pub has_member : {S : O.Number → Type 0} {b : Bound O.Number} → Exact O S b → (x : O.Number) × S x
  has_member {b} e = let (z, h) = allows_some O b in let (x, m, l) = e.reached z h in (x, m)

  -- sets with the same members have the same exact bound
  pub exact_of_same_set : {S T : O.Number → Type 0} {b : Bound O.Number} → ((x : O.Number) → S x ↔ T x) → Exact O S b → Exact O T b
  exact_of_same_set same e =
      record {
        allowed = λ {x} t. e.allowed ((same x).1 t);
        reached = λ z h. let (x, m, l) = e.reached z h in (x, (same x).0 m, l);
      }

  -- ---- one exact bound
  closed_is_not_open : (a b : O.Number) → Covers O (closed_at a) (open_at b) → Covers O (open_at b) (closed_at a) → ⊥
  closed_is_not_open a b h k = let (m, p, q) = O.between (k.covers a (O.reflexive a)) in q (h.covers m p)

  none_is_not_closed : (a : O.Number) → Covers O (closed_at a) none → ⊥
  none_is_not_closed a h = let (y, k) = O.lower a in k (h.covers y tt)

  none_is_not_open : (a : O.Number) → Covers O (open_at a) none → ⊥
  none_is_not_open a h = h.covers a tt (O.reflexive a)

  closed_before : (a b : O.Number) → Covers O (closed_at a) (closed_at b) → O.◌≼◌ a b
  closed_before a b h = h.covers b (O.reflexive b)

  open_before : (a b : O.Number) → Covers O (open_at a) (open_at b) → O.◌≼◌ a b
  open_before a b h = elim (O.decide a b) [ yes l ↦ l | no l ↦ absurd (h.covers a l (O.reflexive a)) ]

  -- bounds that allow the same numbers are the same bound
  pub same_bound : (b c : Bound O.Number) → Covers O b c → Covers O c b → SameBound O b c
  same_bound none none h k = tt
  same_bound none (closed_at b) h k = none_is_not_closed b k
  same_bound none (open_at b) h k = none_is_not_open b k
  same_bound (closed_at a) none h k = none_is_not_closed a h
  same_bound (closed_at a) (closed_at b) h k = (closed_before a b h, closed_before b a k)
  same_bound (closed_at a) (open_at b) h k = closed_is_not_open a b h k
  same_bound (open_at a) none h k = none_is_not_open a h
  same_bound (open_at a) (closed_at b) h k = closed_is_not_open b a k h
  same_bound (open_at a) (open_at b) h k = (open_before a b h, open_before b a k)

  -- and the same bound allows the same numbers
  pub covers_of_same : (b c : Bound O.Number) → SameBound O b c → Covers O b c × Covers O c b
  covers_of_same none none s = (record { covers = λ x k. tt }, record { covers = λ x k. tt })
  covers_of_same none (closed_at b) s = absurd s
  covers_of_same none (open_at b) s = absurd s
  covers_of_same (closed_at a) none s = absurd s
  covers_of_same (closed_at a) (closed_at b) s = (record { covers = λ x k. O.transitive s.0 k }, record { covers = λ x k. O.transitive s.1 k })
  covers_of_same (closed_at a) (open_at b) s = absurd s
  covers_of_same (open_at a) none s = absurd s
  covers_of_same (open_at a) (closed_at b) s = absurd s
  covers_of_same (open_at a) (open_at b) s = (record { covers = λ x k l. k (O.transitive l s.0) }, record { covers = λ x k l. k (O.transitive l s.1) })

  pub exact_of_same_bound : {S : O.Number → Type 0} (b c : Bound O.Number) → SameBound O b c → Exact O S b → Exact O S c
  exact_of_same_bound b c s e =
      let (h, k) = covers_of_same b c s in
      record { allowed = λ {x} m. k.covers x (e.allowed m); reached = λ z l. e.reached z (h.covers z l) }

  module _ {S : O.Number → Type 0} where
    -- the bound b allows every member, so it allows whatever the exact bound c allows
    exact_is_narrowest : {b c : Bound O.Number} → Exact O S b → Exact O S c → Covers O b c
    exact_is_narrowest {b} e f = record { covers = λ z h. let (x, m, l) = f.reached z h in upward b (e.allowed m) l }

    pub exact_is_unique : {b c : Bound O.Number} → Exact O S b → Exact O S c → SameBound O b c
    exact_is_unique {b} {c} e f = same_bound b c (exact_is_narrowest e f) (exact_is_narrowest f e)

    -- ---- the exact bound as a number
    pub greatest_of_closed : {a : O.Number} → Exact O S (closed_at a) → GreatestBelow O S a
    greatest_of_closed {a} e =
        record { none_below = λ m. e.allowed m; greatest = λ c h. let (x, m, l) = e.reached a (O.reflexive a) in O.transitive (h x m) l }

    pub greatest_of_open : {a : O.Number} → Exact O S (open_at a) → GreatestBelow O S a
    greatest_of_open {a} e =
        record {
          none_below = λ m. O.total (e.allowed m);
          greatest = λ c h.
              elim (O.decide c a) [
                | yes l ↦ l
                | no l ↦ let (m, p, q) = O.between l in let (x, s, k) = e.reached m p in absurd (q (O.transitive (h x s) k))
              ];
        }

    -- without a bound there is no number below all members
    pub no_number_below : Exact O S none → (c : O.Number) → ((x : O.Number) → S x → O.◌≼◌ c x) → ⊥
    no_number_below e c h = let (y, k) = O.lower c in let (x, m, l) = e.reached y tt in k (O.transitive (h x m) l)

    pub greatest_is_unique : {a c : O.Number} → GreatestBelow O S a → GreatestBelow O S c → Same O a c
    greatest_is_unique {a} {c} g h = (h.greatest a (λ x m. g.none_below m), g.greatest c (λ x m. h.none_below m))

    -- ---- a closed bound is attained and an open one is not
    pub closed_is_attained : {a : O.Number} → Exact O S (closed_at a) → (x : O.Number) × S x × Same O x a
    closed_is_attained {a} e = let (x, m, l) = e.reached a (O.reflexive a) in (x, m, (l, e.allowed m))

    pub open_is_not_attained : {a x : O.Number} → Exact O S (open_at a) → S x → ¬ Same O x a
    open_is_not_attained e m h = e.allowed m h.0
