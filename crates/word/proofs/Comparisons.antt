-- The three comparisons of real ranges are comparisons of their first and last cells: membership is by cells, and every cell has a number in it.
use mathlib.Core.Logic.{◌↔◌, ◌⊎◌, inl, inr}
use Prim.Native.Nat.{ℕ, ◌≤◌, ◌<◌}
use native.Mathlib.Omega.{arith}
use native.Mathlib.Decide.{dec_lt}
use Rattle.exact.specs.Fraction.{Fraction}
use Rattle.exact.proofs.Order.{clashᶠ, <ᶠ_of_not_≤ᶠ}
use Rattle.bound.specs.Cell.{InCells}
use Rattle.bound.proofs.Smallest.{inside_iff, meets_iff, below_iff}
use Rattle.word.specs.Member.{Real, Member, Inside, Meets, Below}
use Rattle.word.specs.Spans.{cells_of}
use Rattle.word.proofs.Grid.{posits}
use Rattle.word.proofs.RealWords.{high_there}
use Rattle.word.proofs.Members.{member_cells}

module _ (n es : ℕ) (wide : 3 ≤ n) where
  pub in_cells : {w : ℕ} → Real n w → {x : Fraction} → Member n es w x → InCells (posits n es wide) (cells_of n w).lo (cells_of n w).hi x
  in_cells r {x} m = let (l, h) = (member_cells n es wide r x).0 m in record { from_low = l; to_high = h }

  pub of_cells : {w : ℕ} → Real n w → {x : Fraction} → InCells (posits n es wide) (cells_of n w).lo (cells_of n w).hi x → Member n es w x
  of_cells r {x} i = (member_cells n es wide r x).1 (i.from_low, i.to_high)

  module _ {a b : ℕ} (r : Real n a) (q : Real n b) where
    pub inside_by_cells :
        Inside n es a b ↔ (((cells_of n a).hi < (cells_of n a).lo) ⊎ (((cells_of n b).lo ≤ (cells_of n a).lo) × ((cells_of n a).hi ≤ (cells_of n b).hi)))
    inside_by_cells =
        let x = cells_of n a in
        let y = cells_of n b in
        let (f, g) = inside_iff (posits n es wide) x.lo x.hi y.lo y.hi (high_there n wide r) in (
          λ h. elim (dec_lt x.hi x.lo) [ yes l ↦ inl l | no l ↦ inr (f (λ z i. in_cells q (h z (of_cells r i))) (omega arith)) ],
          λ d z m. of_cells q (g (λ l. elim d [ inl e ↦ absurd (omega arith) | inr e ↦ e ]) z (in_cells r m)),
        )

    pub meets_by_cells :
        Meets n es a b
        ↔ (((cells_of n a).lo ≤ (cells_of n a).hi) × ((cells_of n b).lo ≤ (cells_of n b).hi) × ((cells_of n a).lo ≤ (cells_of n b).hi) × ((cells_of n b).lo ≤ (cells_of n a).hi))
    meets_by_cells =
        let x = cells_of n a in
        let y = cells_of n b in
        let (f, g) = meets_iff (posits n es wide) x.lo x.hi y.lo y.hi (high_there n wide r) (high_there n wide q) in (
          λ m. f (m.0, in_cells r m.1, in_cells q m.2),
          λ h. let (z, i, j) = g h in (z, of_cells r i, of_cells q j),
        )

    pub below_by_cells :
        Below n es a b ↔ (((cells_of n a).hi < (cells_of n a).lo) ⊎ (((cells_of n b).hi < (cells_of n b).lo) ⊎ ((cells_of n a).hi < (cells_of n b).lo)))
    below_by_cells =
        let x = cells_of n a in
        let y = cells_of n b in
        let (f, g) = below_iff (posits n es wide) x.lo x.hi y.lo y.hi (high_there n wide r) (high_there n wide q) in (
          λ h. elim (dec_lt x.hi x.lo) [
            | yes l ↦ inl l
            | no l ↦ elim (dec_lt y.hi y.lo) [
              | yes k ↦ inr (inl k)
              | no k ↦ inr (inr (f (λ u v i j. clashᶠ (h u v (of_cells r i) (of_cells q j))) (omega arith) (omega arith)))
            ]
          ],
          λ d u v i j.
              <ᶠ_of_not_≤ᶠ
              (g (λ l k. elim d [ inl e ↦ absurd (omega arith) | inr e ↦ elim e [ inl o ↦ absurd (omega arith) | inr o ↦ o ] ]) u v (in_cells r i) (in_cells q j)),
        )
