-- `cell::inner::add::sum_end` meets its contract: its tests are whether the bounds at the two cells are there and closed (`SumCells`).
use native.Mathlib.Omega.{arith}
use Rattle.cell.proofs.SumCells.{end_left, end_right, end_finite, end_found, marks_small, moved_small}
use Rattle.cell.proofs.inner.add.sum_end.Goals as goal

pub returns-then-x-top : goal.returns-then-x-top
returns-then-x-top c = end_left _ c.args.f.es c.args.f.wide_enough c.args.y c.top_cell-top.ensures c.if-x-top.true

pub returns-then-y-top : goal.returns-then-y-top
returns-then-y-top c = end_right _ c.args.f.es c.args.f.wide_enough c.args.x c.top_cell-top.ensures c.if-y-top.true

pub sum_cell-cell-requires : goal.sum_cell-cell-requires
sum_cell-cell-requires c = (
  end_finite _ c.args.f.es c.args.f.wide_enough c.top_cell-top.ensures c.if-x-top.false c.requires.0 c.posit_at.ensures,
  end_finite _ c.args.f.es c.args.f.wide_enough c.top_cell-top.ensures c.if-y-top.false c.requires.1 c.posit_at-2.ensures,
)

pub overflow_mul-gap : goal.overflow_mul-gap
overflow_mul-gap c = omega (arith, marks_small c.args.x c.args.y)

pub overflow_sub-gap : goal.overflow_sub-gap
overflow_sub-gap c = marks_small c.args.x c.args.y

pub overflow_mul-result : goal.overflow_mul-result
overflow_mul-result c = omega (arith, moved_small c.sum_cell-cell.result c.args.x c.args.y)

pub overflow_sub-result : goal.overflow_sub-result
overflow_sub-result c = omega (arith, moved_small c.sum_cell-cell.result c.args.x c.args.y)

pub returns : goal.returns
returns c =
    end_found _ _ c.args.f.wide_enough c.args.x c.args.y (omega arith) (omega arith) c.posit_at.ensures c.posit_at-2.ensures c.sum_cell-cell.ensures
