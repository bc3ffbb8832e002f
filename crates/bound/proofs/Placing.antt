-- Where an end must stand, for cells counted from either side: the k-th value is counted as the odd number p k, and the number a as `at a`.
use mathlib.Core.Path.{◌≡◌, refl, ap}
use mathlib.Core.Logic.{◌↔◌}
use Prim.Native.Nat.{ℕ, ◌+◌, ◌%◌, ◌≤◌, ◌<◌}
use native.Mathlib.Decide.{dec_le}
use native.Mathlib.Omega.{arith}
use Rattle.bound.specs.Order.{Order, Less, Same}
use Rattle.bound.specs.Bound.{Bound, none, closed_at, open_at, map_bound, Allows, Exact, GreatestBelow}
use Rattle.bound.specs.Cell.{start_of_bound}
use Rattle.bound.specs.End.{OnGrid, Stands, closed_on_bound, open_on_bound, open_beyond_bound, unbounded_beyond, unbounded}
use Rattle.bound.proofs.Bound.{greatest_of_closed, greatest_of_open, closed_is_attained, no_number_below}

pub record Placing (O : Order) (n : ℕ) (v : ℕ → O.Number) (p : ℕ → ℕ) (at : O.Number → ℕ) : Type 0 where
  pub odd : (k : ℕ) → k < n → p k % 2 ≡ 1
  pub from_value : (a : O.Number) (k : ℕ) → k < n → O.◌≼◌ (v k) a ↔ p k ≤ at a
  pub to_value : (a : O.Number) (k : ℕ) → k < n → O.◌≼◌ a (v k) ↔ at a ≤ p k

abbrev pub placed : (ℕ → ℕ) → Bound ℕ → ℕ
placed p none = 0
placed p (closed_at k) = p k
placed p (open_at k) = p k + 1

module _ {O : Order} {n : ℕ} {v : ℕ → O.Number} {p : ℕ → ℕ} {at : O.Number → ℕ} (P : Placing O n v p at) where
  pub allowed_iff_placed : (b : Bound ℕ) → OnGrid n b → (x : O.Number) → Allows O (map_bound v b) x ↔ placed p b ≤ at x
  allowed_iff_placed none h x = (λ k. omega arith, λ k. tt)
  allowed_iff_placed (closed_at k) h x = P.from_value x k h
  allowed_iff_placed (open_at k) h x =
      (λ l. elim (dec_le (at x) (p k)) [ yes m ↦ absurd (l ((P.to_value x k h).1 m)) | no m ↦ omega arith ], λ l m. omega (arith, (P.to_value x k h).0 m))

  -- different ends have different places
  pub one_placed : ((i j : ℕ) → i < n → j < n → p i ≡ p j → i ≡ j) → (w w' : Bound ℕ) → OnGrid n w → OnGrid n w' → placed p w ≡ placed p w' → w ≡ w'
  one_placed inj none none h k e = refl
  one_placed inj none (closed_at j) h k e = absurd (omega (arith, P.odd j k))
  one_placed inj none (open_at j) h k e = absurd (omega arith)
  one_placed inj (closed_at i) none h k e = absurd (omega (arith, P.odd i h))
  one_placed inj (closed_at i) (closed_at j) h k e = ap closed_at (inj i j h k e)
  one_placed inj (closed_at i) (open_at j) h k e = absurd (omega (arith, P.odd i h, P.odd j k))
  one_placed inj (open_at i) none h k e = absurd (omega arith)
  one_placed inj (open_at i) (closed_at j) h k e = absurd (omega (arith, P.odd i h, P.odd j k))
  one_placed inj (open_at i) (open_at j) h k e = ap open_at (inj i j h k (omega arith))

  on_value : {a : O.Number} (k : ℕ) → k < n → p k ≡ at a → Same O a (v k)
  on_value {a} k h e = ((P.to_value a k h).1 (omega arith), (P.from_value a k h).1 (omega arith))

  module _ {S : O.Number → Type 0} where
    greatest_moves : {a c : O.Number} → GreatestBelow O S a → Same O a c → GreatestBelow O S c
    greatest_moves g s =
        record { none_below = λ m. O.transitive s.1 (g.none_below m); greatest = λ d h. O.transitive (g.greatest d h) s.0 }

    beyond : {a : O.Number} (k : ℕ) → k < n → p k + 1 ≡ at a → GreatestBelow O S a → Stands O n v S (open_at k)
    beyond {a} k h e g =
        let less : Less O (v k) a = λ l. omega (arith, (P.to_value a k h).0 l) in
        open_beyond_bound a g (λ j i s. omega (arith, P.odd k h, P.odd j i, (P.from_value a j i).0 s.0, (P.to_value a j i).0 s.1)) less
        (λ j i l. (P.to_value (v j) k h).1 (omega (arith, P.odd k h, P.odd j i, (P.from_value a j i).0 (O.total l), (P.to_value (v j) j i).0 (O.reflexive (v j)))))
        (λ x m s. less (O.transitive (g.none_below m) s.0))

    nowhere : {a : O.Number} → 0 ≡ at a → GreatestBelow O S a → Stands O n v S none
    nowhere {a} e g = unbounded_beyond a g (λ j i l. omega (arith, P.odd j i, (P.from_value a j i).0 l))

    pub stands : (b : Bound O.Number) → Exact O S b → (w : Bound ℕ) → OnGrid n w → placed p w ≡ start_of_bound (map_bound at b) → Stands O n v S w
    stands none x none h e = unbounded (no_number_below O x)
    stands (closed_at a) x none h e = nowhere e (greatest_of_closed O x)
    stands (open_at a) x none h e = nowhere (omega arith) (greatest_of_open O x)
    stands none x (closed_at k) h e = absurd (omega (arith, P.odd k h))
    stands (closed_at a) x (closed_at k) h e =
        let s : Same O a (v k) = on_value k h e in
        let (y, m, t) = closed_is_attained O x in
        closed_on_bound (greatest_moves (greatest_of_closed O x) s) y m (O.transitive t.0 s.0, O.transitive s.1 t.1)
    stands (open_at a) x (closed_at k) h e = absurd (omega (arith, P.odd k h))
    stands none x (open_at k) h e = absurd (omega arith)
    stands (closed_at a) x (open_at k) h e = beyond k h e (greatest_of_closed O x)
    stands (open_at a) x (open_at k) h e =
        elim (dec_le (at a) (p k)) [
          | yes l ↦
              let s : Same O a (v k) = on_value k h (omega (arith, P.odd k h)) in
              open_on_bound (greatest_moves (greatest_of_open O x) s) (λ y m t. x.allowed m (O.transitive t.0 s.1))
          | no l ↦ beyond k h (omega (arith, P.odd k h)) (greatest_of_open O x)
        ]
