-- The one lemma for operations: the exact bound of all results of an increasing operation comes from the two bounds.
use mathlib.Core.Logic.{◌↔◌, ◌⊎◌, inl, inr}
use Rattle.bound.specs.Order.{Order, Less, Same, dual}
use Rattle.bound.specs.Bound.{Bound, none, closed_at, open_at, Allows, allows_some, Exact}
use Rattle.bound.specs.Extent.{Extent, Spans, nothing, exactly}
use Rattle.bound.specs.Operation.{Increasing, Results, both, combine}
use Rattle.bound.proofs.Order.{same_refl}
use Rattle.bound.proofs.Bound.{upward, has_member, exact_of_same_set}
use Rattle.bound.proofs.Extent.{NoMember}

-- over the dual orders the operation increases too, and so it does with its arguments exchanged
module _ {P Q R : Order} {f : P.Number → Q.Number → R.Number} (I : Increasing P Q R f) where
  pub dual_increasing : Increasing (dual P) (dual Q) (dual R) f
  dual_increasing =
      record {
        increases = I.increases;
        cancel_right = λ y h. I.cancel_right y h;
        cancel_left = λ x h. I.cancel_left x h;
        solve_left = λ y z. let (x, s) = I.solve_left y z in (x, (s.1, s.0));
        solve_right = λ x z. let (y, s) = I.solve_right x z in (y, (s.1, s.0));
      }

  pub swap_increasing : Increasing Q P R (λ y x. f x y)
  swap_increasing =
      record {
        increases = λ h k. I.increases k h;
        cancel_right = λ x h. I.cancel_left x h;
        cancel_left = λ y h. I.cancel_right y h;
        solve_left = I.solve_right;
        solve_right = I.solve_left;
      }

  -- strictly, if one argument increases strictly
  increases_strictly : {x x' : P.Number} {y y' : Q.Number} → Less P x x' → Q.◌≼◌ y y' → Less R (f x y) (f x' y')
  increases_strictly {x} {x'} {y} h k = λ l. h (I.cancel_right y (R.transitive (I.increases (P.reflexive x') k) l))

  -- above f a y there is f x y with x above a
  solve_above : (a : P.Number) (y : Q.Number) {z : R.Number} → Less R (f a y) z → (x : P.Number) × Less P a x × Same R (f x y) z
  solve_above a y {z} h = let (x, s) = I.solve_left y z in (x, (λ l. h (R.transitive s.1 (I.increases l (Q.reflexive y)))), s)

-- two arguments that the bounds a and b allow, with their result at or below z
record Room (P Q R : Order) (f : P.Number → Q.Number → R.Number) (a : Bound P.Number) (b : Bound Q.Number) (z : R.Number) : Type 0 where
  left : P.Number
  right : Q.Number
  left_allowed : Allows P a left
  right_allowed : Allows Q b right
  below : R.◌≼◌ (f left right) z

swap_room : {P Q R : Order} {f : P.Number → Q.Number → R.Number} {a : Bound P.Number} {b : Bound Q.Number} {z : R.Number}
    → Room Q P R (λ y x. f x y) b a z → Room P Q R f a b z
swap_room r = record { left = r.right; right = r.left; left_allowed = r.right_allowed; right_allowed = r.left_allowed; below = r.below }

module _ {P Q R : Order} {f : P.Number → Q.Number → R.Number} (I : Increasing P Q R f) where
  room_without_first : (b : Bound Q.Number) (z : R.Number) → Room P Q R f none b z
  room_without_first b z =
      let (y, h) = allows_some Q b in
      let (x, s) = I.solve_left y z in
      record { left = x; right = y; left_allowed = tt; right_allowed = h; below = s.0 }

  room_open_closed : (a : P.Number) (b : Q.Number) {z : R.Number} → Less R (f a b) z → Room P Q R f (open_at a) (closed_at b) z
  room_open_closed a b h =
      let (x, l, s) = solve_above I a b h in
      record { left = x; right = b; left_allowed = l; right_allowed = Q.reflexive b; below = s.0 }

module _ {P Q R : Order} {f : P.Number → Q.Number → R.Number} (I : Increasing P Q R f) where
  -- solve for the first argument half of the way up, and then for the second
  room_open_open : (a : P.Number) (b : Q.Number) {z : R.Number} → Less R (f a b) z → Room P Q R f (open_at a) (open_at b) z
  room_open_open a b h =
      let (m, p, q) = R.between h in
      let (x, l, s) = solve_above I a b p in
      let (y, k, t) = solve_above (swap_increasing I) b x (λ n. q (R.transitive n s.0)) in
      record { left = x; right = y; left_allowed = l; right_allowed = k; below = t.0 }

  room : (a : Bound P.Number) (b : Bound Q.Number) (z : R.Number) → Allows R (both f a b) z → Room P Q R f a b z
  unfolding both
  room none b z h = room_without_first I b z
  room (closed_at a) none z h = swap_room (room_without_first (swap_increasing I) (closed_at a) z)
  room (closed_at a) (closed_at b) z h = record { left = a; right = b; left_allowed = P.reflexive a; right_allowed = Q.reflexive b; below = h }
  room (closed_at a) (open_at b) z h = swap_room (room_open_closed (swap_increasing I) b a h)
  room (open_at a) none z h = swap_room (room_without_first (swap_increasing I) (open_at a) z)
  room (open_at a) (closed_at b) z h = room_open_closed I a b h
  room (open_at a) (open_at b) z h = room_open_open a b h

  both_allows : (a : Bound P.Number) (b : Bound Q.Number) (x : P.Number) (y : Q.Number) → Allows P a x → Allows Q b y → Allows R (both f a b) (f x y)
  unfolding both
  both_allows none b x y h k = tt
  both_allows (closed_at a) none x y h k = tt
  both_allows (closed_at a) (closed_at b) x y h k = I.increases h k
  both_allows (closed_at a) (open_at b) x y h k = increases_strictly (swap_increasing I) k h
  both_allows (open_at a) none x y h k = tt
  both_allows (open_at a) (closed_at b) x y h k = increases_strictly I h k
  both_allows (open_at a) (open_at b) x y h k = increases_strictly I h (Q.total k)

-- every choice of members has a result
pub result : {A B : Type 0} (R : Order) (f : A → B → R.Number) {X : A → Type 0} {Y : B → Type 0} {x : A} {y : B} → X x → Y y → Results R f X Y (f x y)
result R f {x} {y} m n = record { left = x; right = y; left_member = m; right_member = n; value = same_refl R (f x y) }

dual_results : {A B : Type 0} (R : Order) {f : A → B → R.Number} {X : A → Type 0} {Y : B → Type 0} {z : R.Number} → Results (dual R) f X Y z → Results R f X Y z
dual_results R r =
    record {
      left = r.left;
      right = r.right;
      left_member = r.left_member;
      right_member = r.right_member;
      value = (r.value.1, r.value.0);
    }

module _ {P Q R : Order} {f : P.Number → Q.Number → R.Number} (I : Increasing P Q R f) {X : P.Number → Type 0} {Y : Q.Number → Type 0} where
  pub both_is_exact : {a : Bound P.Number} {b : Bound Q.Number} → Exact P X a → Exact Q Y b → Exact R (Results R f X Y) (both f a b)
  both_is_exact {a} {b} e d =
      record {
        allowed = λ r.
            upward R (both f a b) (both_allows I a b r.left r.right (e.allowed r.left_member) (d.allowed r.right_member)) r.value.1;
        reached = λ z h.
            let r = room I a b z h in
            let (x, m, p) = e.reached r.left r.left_allowed in
            let (y, n, q) = d.reached r.right r.right_allowed in
            (f x y, result R f m n, R.transitive (I.increases p q) r.below);
      }

module _ {P Q R : Order} {f : P.Number → Q.Number → R.Number} (I : Increasing P Q R f) {X : P.Number → Type 0} {Y : Q.Number → Type 0} where
  -- the extent of all results
  pub combine_spans : {u : Extent P.Number} {v : Extent Q.Number} → Spans P X u → Spans Q Y v → Spans R (Results R f X Y) (combine f u v)
  unfolding combine
  combine_spans (nothing h) t = nothing (λ z r. h r.left r.left_member)
  combine_spans (exactly p q) (nothing h) = nothing (λ z r. h r.right r.right_member)
  combine_spans (exactly p q) (exactly p' q') =
      exactly (both_is_exact I p p')
      (exact_of_same_set (dual R) (λ z. (dual_results R, dual_results (dual R))) (both_is_exact (dual_increasing I) q q'))

-- more members give more results
pub results_grow : {A B : Type 0} (R : Order) {f : A → B → R.Number} {X X' : A → Type 0} {Y Y' : B → Type 0} {z : R.Number}
    → ((x : A) → X x → X' x) → ((y : B) → Y y → Y' y) → Results R f X Y z → Results R f X' Y' z
results_grow R h k r =
    record {
      left = r.left;
      right = r.right;
      left_member = h r.left r.left_member;
      right_member = k r.right r.right_member;
      value = r.value;
    }

-- there is no result exactly where one of the two sets has no member
pub no_result_iff : (P Q R : Order) (f : P.Number → Q.Number → R.Number) {X : P.Number → Type 0} {Y : Q.Number → Type 0} {u : Extent P.Number} {v : Extent Q.Number}
    → Spans P X u → Spans Q Y v → NoMember (Results R f X Y) ↔ (NoMember X ⊎ NoMember Y)
no_result_iff P Q R f s t = (find s t, λ n z r. elim n [ inl h ↦ h r.left r.left_member | inr h ↦ h r.right r.right_member ])
  where
    find : {X : P.Number → Type 0} {Y : Q.Number → Type 0} {u : Extent P.Number} {v : Extent Q.Number} → Spans P X u → Spans Q Y v → NoMember (Results R f X Y) → NoMember X ⊎ NoMember Y
    find (nothing h) t n = inl h
    find (exactly p q) (nothing h) n = inr h
    find (exactly p q) (exactly p' q') n =
        let (x, m) = has_member P p in
        let (y, k) = has_member Q p' in
        absurd (n (f x y) (result R f m k))
