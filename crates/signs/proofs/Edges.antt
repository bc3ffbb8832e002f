-- The results of two parts above 0 start at the result of two ends: without a limit where either has none, and closed where both are closed.
use mathlib.Core.Path.{◌≡◌, refl}
use mathlib.Core.Bool.{Bool, true, false, ◌&&◌, ◌||◌}
use Prim.Native.Nat.{ℕ, ◌+◌, ◌*◌, ◌/◌, ◌^◌, ◌≤◌}
use native.Mathlib.Omega.{arith}
use lib.IntN.{pos}
use lib.Pow.{pow_pos}
use Rattle.exact.specs.Fraction.{Fraction, whole}
use Rattle.bound.specs.Bound.{Bound, none, closed_at, open_at, map_bound}
use Rattle.bound.specs.Operation.{both}
use Rattle.bound.specs.Above.{start_back}
use Rattle.bound.specs.Cell.{start_of_bound, end_of_bound}
use Rattle.bound.specs.Fractions.{fractions}
use Rattle.posit.specs.Value.{value}
use Rattle.word.specs.Numbered.{count}
use Rattle.word.specs.Computed.{cell_of}
use Rattle.word.specs.Spans.{top_cell}
use Rattle.signs.specs.declared.inner.edge.Edge.{Edge}
use Rattle.signs.specs.Signs.{pick_cell, first_cell, last_cell}
use Rattle.cell.specs.Cells.{result_of}
use Rattle.word.proofs.Places.{top_cell_says}
use Rattle.cell.proofs.ZeroCell.{even, cell_of_zero}

-- a bound among the numbers above 0, as no limit or a closed or open one at x
pub data Limit : Bound Fraction → Bool → Bool → Fraction → Type 0 where
  no_limit : {closed : Bool} {x : Fraction} → Limit none true closed x
  closed_limit : {x : Fraction} → Limit (closed_at x) false true x
  open_limit : {x : Fraction} → Limit (open_at x) false false x

abbrev pub IsEdge : ℕ → ℕ → Bound Fraction → Edge → Type 0
IsEdge n es b e = Limit b e.unlimited e.closed (value n es e.posit)

module _ (n es : ℕ) (wide : 3 ≤ n) (f : Fraction → Fraction → Fraction) where
  abbrev at : Fraction → Fraction → ℕ
  at x y = cell_of n es (f x y)

  behind_zero : 2 * ((cell_of n es (whole (pos 0)) + 1) / 2) ≡ 2 ^ n
  behind_zero = rw (cell_of_zero n es wide) (omega (arith, even n es wide, pow_pos n))

  low_limit : {b e : Bound Fraction} {u v k l : Bool} {x y : Fraction} → Limit b u k x → Limit e v l y
      → start_of_bound (map_bound (cell_of n es) (start_back fractions (whole (pos 0)) (both f b e)))
      ≡ pick_cell (u || v) (2 ^ n) (pick_cell (k && l) (at x y) (2 * ((at x y + 1) / 2)))
  unfolding both start_back
  low_limit no_limit e = behind_zero
  low_limit closed_limit no_limit = behind_zero
  low_limit closed_limit closed_limit = refl
  low_limit closed_limit open_limit = refl
  low_limit open_limit no_limit = behind_zero
  low_limit open_limit closed_limit = refl
  low_limit open_limit open_limit = refl

  high_limit : {b e : Bound Fraction} {u v k l : Bool} {x y : Fraction} → Limit b u k x → Limit e v l y
      → end_of_bound (count n) (map_bound (cell_of n es) (both f b e)) ≡ pick_cell (u || v) (top_cell n) (pick_cell (k && l) (at x y) (2 * (at x y / 2)))
  unfolding both
  high_limit no_limit e = rw (top_cell_says n wide)
  high_limit closed_limit no_limit = rw (top_cell_says n wide)
  high_limit closed_limit closed_limit = refl
  high_limit closed_limit open_limit = refl
  high_limit open_limit no_limit = rw (top_cell_says n wide)
  high_limit open_limit closed_limit = refl
  high_limit open_limit open_limit = refl

module _ (n es : ℕ) (wide : 3 ≤ n) (divide : Bool) where
  pub first_cell_is : {b e : Bound Fraction} (x y : Edge) → IsEdge n es b x → IsEdge n es e y
      → start_of_bound (map_bound (cell_of n es) (start_back fractions (whole (pos 0)) (both (result_of divide) b e))) ≡ first_cell n es divide x y
  first_cell_is x y h k = low_limit n es wide (result_of divide) h k

  pub last_cell_is : {b e : Bound Fraction} (x y : Edge) → IsEdge n es b x → IsEdge n es e y
      → end_of_bound (count n) (map_bound (cell_of n es) (both (result_of divide) b e)) ≡ last_cell n es divide x y
  last_cell_is x y h k = high_limit n es wide (result_of divide) h k
