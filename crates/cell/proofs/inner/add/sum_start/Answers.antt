-- `cell::inner::add::sum_start` meets its contract: its tests are whether the bounds at the two cells are there and closed (`SumCells`).
use native.Mathlib.Omega.{arith}
use Rattle.cell.proofs.SumCells.{start_left, start_right, start_finite, start_found, marks_small, moved_small, cell_small}
use Rattle.cell.proofs.inner.add.sum_start.Goals as goal

pub returns-then-x-eq0 : goal.returns-then-x-eq0
returns-then-x-eq0 c = start_left _ c.args.f.es c.args.f.wide_enough c.args.y c.if-x-eq0.true

pub returns-then-y-eq0 : goal.returns-then-y-eq0
returns-then-y-eq0 c = start_right _ c.args.f.es c.args.f.wide_enough c.args.x c.if-y-eq0.true

pub sum_cell-cell-requires : goal.sum_cell-cell-requires
sum_cell-cell-requires c = (
  start_finite _ c.args.f.es c.args.f.wide_enough c.if-x-eq0.false c.requires.0 c.posit_at.ensures,
  start_finite _ c.args.f.es c.args.f.wide_enough c.if-y-eq0.false c.requires.1 c.posit_at-2.ensures,
)

pub overflow_mul-gap : goal.overflow_mul-gap
overflow_mul-gap c = omega (arith, marks_small c.args.x c.args.y)

pub overflow_sub-gap : goal.overflow_sub-gap
overflow_sub-gap c = marks_small c.args.x c.args.y

pub overflow_mul-result : goal.overflow_mul-result
overflow_mul-result c = omega (arith, moved_small c.sum_cell-cell.result c.args.x c.args.y)

pub overflow_add-result : goal.overflow_add-result
overflow_add-result c = omega (arith, moved_small c.sum_cell-cell.result c.args.x c.args.y, cell_small _ _ c.args.f.wide_enough _ c.args.f.not_too_wide c.sum_cell-cell.ensures)

pub returns : goal.returns
returns c =
    start_found _ _ c.args.f.wide_enough c.args.x c.args.y c.posit_at.ensures c.posit_at-2.ensures c.sum_cell-cell.ensures
    c.if-x-eq0.false c.if-y-eq0.false
