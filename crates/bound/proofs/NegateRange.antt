-- Negation of ranges: over values that come with their negatives it turns the cells, and so the ends, round.
use mathlib.Core.Path.{◌≡◌}
use mathlib.Core.Logic.{◌↔◌}
use Prim.Native.Nat.{ℕ, suc, ◌*◌, ◌-◌, ◌≤◌, ◌<◌}
use native.Mathlib.Omega.{arith}
use Rattle.bound.specs.Order.{Same}
use Rattle.bound.specs.Bound.{Bound, none, closed_at, open_at, map_bound}
use Rattle.bound.specs.Sign.{Numbers, Num}
use Rattle.bound.specs.Cell.{Grid, Cell, cell, start_cell_in, end_cell_in}
use Rattle.bound.specs.End.{OnGrid, start_place, end_place}
use Rattle.bound.specs.Range.{Range, OnValues, Member, negate_range}
use Rattle.bound.proofs.Negate.{dual_numbers}
use Rattle.bound.proofs.Cell.{cell_is_cell, cell_is}
use Rattle.bound.proofs.Range.{member_in_cells}

-- a number is at most the negative of another, and the other at most its negative
across : (N : Numbers) {x y : Num N} → N.order.◌≼◌ x (N.neg y) → N.order.◌≼◌ y (N.neg x)
across N {x} {y} h = N.order.transitive (N.neg_neg y).1 (N.neg_turns h)

module _ (N : Numbers) (G : Grid N.order) (odd : (k : ℕ) → k < G.count → Same N.order (N.neg (G.value k)) (G.value (G.count - suc k))) where
  neg_is_cell : {x : Num N} {c : ℕ} → Cell G x c → Cell G (N.neg x) (2 * G.count - c)
  neg_is_cell {x} {c} p =
      let n = G.count in
      record {
        bounded = omega arith;
        from_value = λ k i. (
          λ h. omega (arith, p.bounded, (p.to_value (n - suc k) (omega arith)).0 (N.order.transitive (across N h) (odd k i).0)),
          λ h. across N (N.order.transitive ((p.to_value (n - suc k) (omega arith)).1 (omega (arith, p.bounded))) (odd k i).1),
        );
        to_value = λ k i. (
          λ h. omega (arith, p.bounded, (p.from_value (n - suc k) (omega arith)).0 (N.order.transitive (odd k i).1 (across (dual_numbers N) h))),
          λ h. across (dual_numbers N) (N.order.transitive (odd k i).0 ((p.from_value (n - suc k) (omega arith)).1 (omega (arith, p.bounded)))),
        );
      }

  pub cell_of_neg : (x : Num N) → cell G (N.neg x) ≡ 2 * G.count - cell G x
  cell_of_neg x = cell_is G (neg_is_cell (cell_is_cell G x))

  -- negation turns the cells of a bound round
  pub neg_start_cell : (b : Bound (Num N)) → start_cell_in G (map_bound N.neg b) ≡ 2 * G.count - end_cell_in G b
  neg_start_cell none = omega arith
  neg_start_cell (closed_at a) = cell_of_neg a
  neg_start_cell (open_at a) = omega (arith, cell_of_neg a, (cell_is_cell G a).bounded)

  pub neg_end_cell : (b : Bound (Num N)) → end_cell_in G (map_bound N.neg b) ≡ 2 * G.count - start_cell_in G b
  neg_end_cell none = omega arith
  neg_end_cell (closed_at a) = cell_of_neg a
  neg_end_cell (open_at a) = omega (arith, cell_of_neg a, (cell_is_cell G a).bounded)

-- the place of an end that names its value from the other side
record Mirrored (n : ℕ) (w : Bound ℕ) : Type 0 where
  there : OnGrid n (map_bound (λ k. n - suc k) w)
  as_start : start_place (map_bound (λ k. n - suc k) w) ≡ 2 * n - end_place n w
  as_end : end_place n (map_bound (λ k. n - suc k) w) ≡ 2 * n - start_place w
  start_bounded : start_place w ≤ 2 * n
  end_bounded : end_place n w ≤ 2 * n

mirrored : (n : ℕ) (w : Bound ℕ) → OnGrid n w → Mirrored n w
mirrored n none h = omega arith
mirrored n (closed_at k) h = omega arith
mirrored n (open_at k) h = omega arith

pub negate_there : (n : ℕ) (r : Range) → OnValues n r → OnValues n (negate_range n r)
negate_there n r t = record { start_there = (mirrored n r.end t.end_there).there; end_there = (mirrored n r.start t.start_there).there }

module _ (N : Numbers) (G : Grid N.order) (odd : (k : ℕ) → k < G.count → Same N.order (N.neg (G.value k)) (G.value (G.count - suc k))) where
  -- the members of the negated range are the negatives of the members
  pub neg_member_iff : (r : Range) → OnValues G.count r → (x : Num N) → Member G r x ↔ Member G (negate_range G.count r) (N.neg x)
  neg_member_iff r t x =
      let n = G.count in
      let a = mirrored n r.start t.start_there in
      let b = mirrored n r.end t.end_there in
      let e = cell_of_neg N G odd x in
      let f = (cell_is_cell G x).bounded in
      let (g, g') = member_in_cells G r t x in
      let (h, h') = member_in_cells G (negate_range n r) (negate_there n r t) (N.neg x) in
      (λ m. h' (let i = g m in omega (arith, a, b, e, f, i)), λ m. g' (let i = h m in omega (arith, a, b, e, f, i)))
