-- The cell of the exact result of two posits is that of the result of their codes, as equal numbers have one cell.
use mathlib.Core.Path.{◌≡◌, sym, ◌∙◌}
use mathlib.Core.Bool.{Bool}
use Prim.Native.Nat.{ℕ, ◌+◌, ◌-◌, ◌^◌, ◌≤◌, ◌<◌}
use native.Mathlib.Nat.{mul-pos}
use native.Mathlib.Omega.{arith}
use lib.IntN.{pos}
use lib.Pow.{pow_pos}
use Rattle.exact.specs.Fraction.{Fraction, ◌≈◌, ◌<ᶠ◌, whole, ◌+ᶠ◌, ◌*ᶠ◌, ◌/ᶠ◌}
use Rattle.exact.proofs.Order.{<ᶠ_≤ᶠ_trans}
use Rattle.exact.proofs.Sign.{>0}
use Rattle.exact.proofs.WholeOrder.{pos_<ℤ}
use Rattle.exact.proofs.Sum.{+ᶠ_cong}
use Rattle.exact.proofs.Product.{*ᶠ_cong}
use Rattle.exact.proofs.Quotient.{/ᶠ_cong}
use Rattle.posit.specs.Format.{Format}
use Rattle.posit.specs.Value.{value}
use Rattle.posit.proofs.Mirror.{power_wider}
use Rattle.code.specs.Code.{scale_in, code_value, CodeOf}
use Rattle.code.specs.Coded.{Codes, first}
use Rattle.code.specs.Step.{StepOf}
use Rattle.word.specs.Computed.{cell_of}
use Rattle.cell.specs.Cells.{result_of, result_cell}
use Rattle.word.proofs.Tiles.{half_small}
use Rattle.cell.proofs.CellFrom.{cell_bounded, cell_same, step_fits, cell_of_step}
use Rattle.cell.proofs.ZeroCell.{above_cell}

-- ---- what a code knows has its step
module _ {n es : ℕ} (f : Format n es) {z : Fraction} {x : ℕ} (k : Codes es z x) {step : ℕ} (s : StepOf n es x step) where
  pub known_fits : step < 2 ^ n
  known_fits = step_fits f.wide_enough (s z k)

  pub known_cell : {y : Fraction} {r : ℕ} → z ≈ y → r ≡ 2 ^ n - 1 + step → r ≡ cell_of n es y
  known_cell e h = h ∙ sym (cell_of_step f.wide_enough (s z k)) ∙ cell_same n es f.wide_enough e

  -- it is above 0, so that its step is not 0's
  known_above : whole (pos 0) <ᶠ z
  known_above = <ᶠ_≤ᶠ_trans (>0.1 (pos_<ℤ.1 (mul-pos (omega arith) (pow_pos (scale_in 24 (first x)))))) k.at_least

  pub known_some : 0 < step
  known_some = omega (arith, above_cell n es f.wide_enough known_above, cell_of_step f.wide_enough (s z k), pow_pos n)

-- ---- equal factors, and so on
module _ {n es p q u v : ℕ} (a : CodeOf n es p u) (b : CodeOf n es q v) where
  pub same_total : (code_value 52 u +ᶠ code_value 52 v) ≈ (value n es p +ᶠ value n es q)
  same_total = +ᶠ_cong a.says b.says

  pub same_product : (code_value 52 u *ᶠ code_value 52 v) ≈ (value n es p *ᶠ value n es q)
  same_product = *ᶠ_cong a.says b.says

  pub same_quotient : (code_value 52 u /ᶠ code_value 52 v) ≈ (value n es p /ᶠ value n es q)
  same_quotient = /ᶠ_cong a.says b.says

pub result_small : (n es : ℕ) (divide : Bool) (p q : ℕ) {c : ℕ} → Format n es → c ≡ result_cell n es divide p q → c ≤ 131072
result_small n es divide p q f e =
    omega (arith, e, cell_bounded n es f.wide_enough (result_of divide (value n es p) (value n es q)), power_wider n, half_small f.not_too_wide)
