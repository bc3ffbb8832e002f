-- The cell of 0 is the middle one, and a number is above 0 exactly where its cell lies above that.
use mathlib.Core.Path.{◌≡◌, subst, ◌∙◌}
use Prim.Native.Nat.{ℕ, ◌+◌, ◌-◌, ◌*◌, ◌^◌, ◌≤◌}
use native.Mathlib.Omega.{arith}
use native.Mathlib.Decide.{dec_le}
use lib.IntN.{pos}
use lib.Pow.{pow_pos}
use Rattle.exact.specs.Fraction.{Fraction, ◌≈◌, ◌<ᶠ◌, whole}
use Rattle.bound.specs.Order.{Less}
use Rattle.bound.specs.Cell.{Cell, cell}
use Rattle.bound.specs.Fractions.{fractions, same_of_≈, less_of_<ᶠ}
use Rattle.bound.proofs.Cell.{value_cell, same_cell, cell_is_cell, monotone}
use Rattle.posit.specs.Format.{nar, Finite}
use Rattle.posit.proofs.Ends.{value_zero}
use Rattle.posit.proofs.Mirror.{nar_is_half}
use Rattle.posit.proofs.Patterns.{some_bit}
use Rattle.word.specs.Numbered.{number_of, value_at}
use Rattle.word.specs.Computed.{cell_of}
use Rattle.cell.specs.Cells.{zero_cell}
use Rattle.word.proofs.Grid.{posits, number_below, number_fits, value_of_number, nar_positive}
use Rattle.word.proofs.Computed.{cell_computed, cell_of_is}
use Rattle.cell.proofs.CellFrom.{cell_same}

module _ (n es : ℕ) (wide : 3 ≤ n) where
  pub even : 2 ^ n ≡ 2 * nar n
  even = nar_is_half n (some_bit n wide)

  zero_finite : Finite n 0
  zero_finite = record { fits = pow_pos n; not_nar = λ e. absurd (omega (arith, nar_positive n (some_bit n wide))) }

  zero_number : number_of n 0 ≡ nar n - 1
  zero_number = number_below n (some_bit n wide) {p = 0} (nar_positive n (some_bit n wide)) ∙ omega arith

  zero_place : 2 * number_of n 0 + 1 ≡ zero_cell n
  zero_place = omega (arith, zero_number, even, nar_positive n (some_bit n wide))

  zero_is : value_at n es (number_of n 0) ≈ whole (pos 0)
  zero_is = rw (value_of_number n es (some_bit n wide) zero_finite) (value_zero n es)

  pub zero_in_cell : Cell (posits n es wide) (whole (pos 0)) (zero_cell n)
  zero_in_cell =
      subst (λ (c : ℕ). Cell (posits n es wide) (whole (pos 0)) c) zero_place
      (same_cell (posits n es wide) (value_cell (posits n es wide) (number_of n 0) (number_fits n (some_bit n wide) zero_finite)) (same_of_≈ zero_is))

  pub cell_of_zero : cell_of n es (whole (pos 0)) ≡ zero_cell n
  cell_of_zero = cell_of_is n es wide zero_in_cell

  pub cell_of_nought : {z : Fraction} → z ≈ whole (pos 0) → cell_of n es z ≡ zero_cell n
  cell_of_nought e = cell_same n es wide e ∙ cell_of_zero

  -- ---- the numbers above 0
  pub above_zero : {x : Fraction} → Less fractions (whole (pos 0)) x → 2 ^ n ≤ cell (posits n es wide) x
  above_zero {x} l = go (dec_le (2 ^ n) (cell (posits n es wide) x))
    where
      go : Dec (2 ^ n ≤ cell (posits n es wide) x) → 2 ^ n ≤ cell (posits n es wide) x
      go (yes h) = h
      go (no h) =
          let k = ((cell_is_cell (posits n es wide) x).to_value (number_of n 0) (number_fits n (some_bit n wide) zero_finite)).1 (omega (arith, zero_place)) in
          absurd (l (fractions.transitive k (same_of_≈ zero_is).0))

  pub above_cell : {x : Fraction} → whole (pos 0) <ᶠ x → 2 ^ n ≤ cell_of n es x
  above_cell {x} h = rw (cell_computed n es wide x) (above_zero (less_of_<ᶠ h))

  pub zero_below : {x : Fraction} → 2 ^ n ≤ cell (posits n es wide) x → Less fractions (whole (pos 0)) x
  zero_below {x} h l =
      absurd (omega (arith, h, pow_pos n, monotone (cell_is_cell (posits n es wide) x) zero_in_cell l))
