-- Ends that stand on values: membership by cells, and each end in the words of demand 3.
use mathlib.Core.Path.{◌≡◌, refl, ◌∙◌}
use mathlib.Core.Logic.{◌↔◌}
use Prim.Native.Nat.{ℕ, ◌+◌, ◌*◌, ◌-◌, ◌≤◌}
use native.Mathlib.Omega.{arith}
use Rattle.bound.specs.Order.{Order, dual}
use Rattle.bound.specs.Bound.{Bound, none, closed_at, open_at, map_bound, Allows, Exact}
use Rattle.bound.specs.Extent.{span, Within, from_to}
use Rattle.bound.specs.Cell.{Grid, cell, InCells, start_of_bound, start_cell_in, end_cell_in}
use Rattle.bound.specs.End.{OnGrid, start_place, end_place, Stands}
use Rattle.bound.proofs.Cell.{cell_is_cell}
use Rattle.bound.proofs.Placing.{Placing, placed, allowed_iff_placed, one_placed, stands}

module _ {O : Order} (G : Grid O) where
  -- ---- cells from below and from above
  pub from_below : Placing O G.count G.value (λ k. 2 * k + 1) (cell G)
  from_below =
      record {
        odd = λ k h. omega arith;
        from_value = λ a k h. (cell_is_cell G a).from_value k h;
        to_value = λ a k h. (cell_is_cell G a).to_value k h;
      }

  pub from_above : Placing (dual O) G.count G.value (λ k. 2 * G.count - (2 * k + 1)) (λ a. 2 * G.count - cell G a)
  from_above =
      record {
        odd = λ k h. omega arith;
        from_value = λ a k h.
            (λ l. omega (arith, (cell_is_cell G a).bounded, ((cell_is_cell G a).to_value k h).0 l), λ l. ((cell_is_cell G a).to_value k h).1 (omega (arith, (cell_is_cell G a).bounded)));
        to_value = λ a k h.
            (λ l. omega (arith, (cell_is_cell G a).bounded, ((cell_is_cell G a).from_value k h).0 l), λ l. ((cell_is_cell G a).from_value k h).1 (omega (arith, (cell_is_cell G a).bounded)));
      }

  below_place : (w : Bound ℕ) → placed (λ k. 2 * k + 1) w ≡ start_place w
  below_place none = refl
  below_place (closed_at k) = refl
  below_place (open_at k) = omega arith

  above_place : (w : Bound ℕ) → OnGrid G.count w → placed (λ k. 2 * G.count - (2 * k + 1)) w ≡ 2 * G.count - end_place G.count w
  above_place none h = omega arith
  above_place (closed_at k) h = refl
  above_place (open_at k) h = omega arith

  pub end_place_bounded : (w : Bound ℕ) → OnGrid G.count w → end_place G.count w ≤ 2 * G.count
  end_place_bounded none h = omega arith
  end_place_bounded (closed_at k) h = omega arith
  end_place_bounded (open_at k) h = omega arith

  above_of : (b : Bound O.Number) → start_of_bound (map_bound (λ a. 2 * G.count - cell G a) b) ≡ 2 * G.count - end_cell_in G b
  above_of none = omega arith
  above_of (closed_at a) = refl
  above_of (open_at a) = omega (arith, (cell_is_cell G a).bounded)

  -- ---- membership by cells
  pub after_start_iff : (s : Bound ℕ) → OnGrid G.count s → (x : O.Number) → Allows O (map_bound G.value s) x ↔ start_place s ≤ cell G x
  after_start_iff s h x =
      let (f, g) = allowed_iff_placed from_below s h x in
      (λ k. omega (arith, f k, below_place s), λ k. g (omega (arith, below_place s)))

  pub before_end_iff : (e : Bound ℕ) → OnGrid G.count e → (x : O.Number) → Allows (dual O) (map_bound G.value e) x ↔ cell G x ≤ end_place G.count e
  before_end_iff e h x =
      let (f, g) = allowed_iff_placed from_above e h x in
      (λ k. omega (arith, f k, above_place e h, end_place_bounded e h, (cell_is_cell G x).bounded), λ k. g (omega (arith, above_place e h)))

  pub member_iff : (s e : Bound ℕ) → OnGrid G.count s → OnGrid G.count e → (x : O.Number)
      → Within O (span (map_bound G.value s) (map_bound G.value e)) x ↔ InCells G (start_place s) (end_place G.count e) x
  member_iff s e h k x = (
    λ w. elim w [ from_to p q ↦ record { from_low = (after_start_iff s h x).0 p; to_high = (before_end_iff e k x).0 q } ],
    λ i. from_to ((after_start_iff s h x).1 i.from_low) ((before_end_iff e k x).1 i.to_high),
  )

  -- ---- the ends that the exact bounds demand
  module _ {S : O.Number → Type 0} where
    pub start_stands : {b : Bound O.Number} → Exact O S b → (w : Bound ℕ) → OnGrid G.count w → start_place w ≡ start_cell_in G b → Stands O G.count G.value S w
    start_stands {b} x w h e = stands from_below b x w h (below_place w ∙ e)

    pub end_stands : {b : Bound O.Number} → Exact (dual O) S b → (w : Bound ℕ) → OnGrid G.count w → end_place G.count w ≡ end_cell_in G b → Stands (dual O) G.count G.value S w
    end_stands {b} x w h e = stands from_above b x w h (omega (arith, above_place w h, above_of b))

  -- ---- a cell is the place of one start, and of one end
  pub one_start : (w w' : Bound ℕ) → OnGrid G.count w → OnGrid G.count w' → start_place w ≡ start_place w' → w ≡ w'
  one_start w w' h k e = one_placed from_below (λ i j h k e. omega arith) w w' h k (omega (arith, below_place w, below_place w'))

  pub one_end : (w w' : Bound ℕ) → OnGrid G.count w → OnGrid G.count w' → end_place G.count w ≡ end_place G.count w' → w ≡ w'
  one_end w w' h k e = one_placed from_above (λ i j h k e. omega arith) w w' h k (omega (arith, above_place w h, above_place w' k))
