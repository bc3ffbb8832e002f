-- `cell::inner::add::sum_cell` meets its contract: beside 0 the cell is that of the other posit, and else that of the exact sum (`SumCells`).
use Rattle.posit.proofs.Formats.{within}
use mathlib.Core.Path.{◌∙◌}
use native.Mathlib.Omega.{arith}
use Rattle.cell.proofs.SumCells.{zero_left, zero_right, nothing_cell, something_known, something_fits, something_small, something_cell, signed_sum}
use Rattle.cell.proofs.inner.add.sum_cell.Goals as goal

pub returns-then-p-eq0 : goal.returns-then-p-eq0
returns-then-p-eq0 c = zero_left _ _ c.args.f.wide_enough c.requires.1 c.if-p-eq0.true c.posit_cell.ensures

pub returns-then-q-eq0 : goal.returns-then-q-eq0
returns-then-q-eq0 c = zero_right _ _ c.args.f.wide_enough c.requires.0 c.if-q-eq0.true c.posit_cell-then-q-eq0.ensures

pub signed_form-x-requires : goal.signed_form-x-requires
signed_form-x-requires c = (c.requires.0, omega (arith, c.if-p-eq0.false))

pub signed_form-y-requires : goal.signed_form-y-requires
signed_form-y-requires c = (c.requires.1, omega (arith, c.if-q-eq0.false))

pub step_of-requires : goal.step_of-requires
step_of-requires c = (something_known (within c.args.f) _ c.signed_sum.ensures c.in-Some.is).fits

pub above_zero-requires : goal.above_zero-requires
above_zero-requires c = something_fits (within c.args.f) _ c.signed_sum.ensures c.in-Some.is c.step_of.ensures

pub with_sign-requires : goal.with_sign-requires
with_sign-requires c = (c.args.f.not_too_wide, something_small (within c.args.f) _ c.signed_sum.ensures c.in-Some.is c.step_of.ensures c.above_zero.ensures)

pub returns-in-None : goal.returns-in-None
returns-in-None c = nothing_cell _ _ c.args.f.wide_enough _ c.signed_sum.ensures c.in-None.is c.power32.ensures
    ∙ signed_sum _ _ c.args.f.wide_enough c.signed_form-x.ensures c.signed_form-y.ensures

pub returns-in-Some : goal.returns-in-Some
returns-in-Some c = something_cell (within c.args.f) _ c.signed_sum.ensures c.in-Some.is c.step_of.ensures c.above_zero.ensures c.with_sign.ensures
    ∙ signed_sum _ _ c.args.f.wide_enough c.signed_form-x.ensures c.signed_form-y.ensures
