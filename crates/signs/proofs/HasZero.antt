-- 0 is a member of a real range exactly where its cell, the middle one, is one of the range's cells.
use mathlib.Core.Path.{◌≡◌, refl, sym}
use mathlib.Core.Bool.{Bool, true, false, ◌&&◌}
use mathlib.Core.Logic.{◌↔◌}
use Prim.Native.Nat.{ℕ, ◌≤◌}
use native.Mathlib.Omega.{arith}
use lib.IntN.{pos}
use lib.Dec.{leb}
use borrow.Author.Tests.{le-leb, leb-true}
use Rattle.exact.specs.Fraction.{whole}
use Rattle.posit.specs.Format.{Format}
use Rattle.posit.proofs.Exactly.{never}
use Rattle.word.specs.declared.inner.span.Span.{Span}
use Rattle.word.specs.Member.{Real, Member, is_member}
use Rattle.word.specs.Spans.{cells_of}
use Rattle.signs.specs.Signs.{has_zero}
use Rattle.cell.specs.Cells.{zero_cell}
use Rattle.word.proofs.Members.{member_cells, is_member_iff}
use Rattle.word.proofs.Computed.{cell_computed}
use Rattle.cell.proofs.ZeroCell.{cell_of_zero}

by_test : {P Q : Type 0} (b : Bool) → (b ≡ true) ↔ P → P ↔ Q → (c : Bool) → (c ≡ true → Q) → (Q → c ≡ true) → c ≡ b
by_test true i j true f g = refl
by_test true i j false f g = g (j.0 (i.0 refl))
by_test false i j true f g = sym (i.1 (j.1 (f refl)))
by_test false i j false f g = refl

both_true : (a b : Bool) → (a && b) ≡ true → (a ≡ true) × (b ≡ true)
both_true true b e = (refl, e)
both_true false b e = never e

module _ {n es b : ℕ} (f : Format n es) (r : Real n b) {x : Span} (e : x ≡ cells_of n b) where
  zero_cells : Member n es b (whole (pos 0)) ↔ ((x.lo ≤ zero_cell n) × (zero_cell n ≤ x.hi))
  zero_cells =
      let z = cell_of_zero n es f.wide_enough in
      let c = cell_computed n es f.wide_enough (whole (pos 0)) in
      let (i, j) = member_cells n es f.wide_enough r (whole (pos 0)) in
      rw e (λ m. let k = i m in (omega (arith, k, z, c), omega (arith, k, z, c)), λ k. j (omega (arith, k, z, c), omega (arith, k, z, c)))

  pub zero_member : has_zero n x ≡ is_member n es b (whole (pos 0))
  zero_member =
      by_test (is_member n es b (whole (pos 0))) (is_member_iff n es b (whole (pos 0))) zero_cells (has_zero n x)
      (λ t. let (p, q) = both_true (leb x.lo (zero_cell n)) (leb (zero_cell n) x.hi) t in (leb-true x.lo (zero_cell n) p, leb-true (zero_cell n) x.hi q))
      (λ q. rw (le-leb x.lo (zero_cell n) q.0, le-leb (zero_cell n) x.hi q.1))
