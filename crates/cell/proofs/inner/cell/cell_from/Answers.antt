-- `cell::inner::cell::cell_from` meets its contract: the gap is counted by the product of two marks, not odd and not met.
use native.Mathlib.Omega.{arith}
use lib.Pow.{pow_pos}
use Rattle.word.proofs.Tiles.{half_small}
use Rattle.cell.proofs.CellFrom.{mark_fits, gap_fits, gives_cell}
use Rattle.cell.proofs.inner.cell.cell_from.Goals as goal

pub overflow_sub-result : goal.overflow_sub-result
overflow_sub-result c = omega (arith, pow_pos c.args.f.n)

pub overflow_add-result : goal.overflow_add-result
overflow_add-result c = omega (arith, half_small c.args.f.not_too_wide)

pub overflow_sub-result-3 : goal.overflow_sub-result-3
overflow_sub-result-3 c = mark_fits c.args.exact

pub overflow_mul-result : goal.overflow_mul-result
overflow_mul-result c = omega (arith, gap_fits c.args.pattern c.args.exact)

pub overflow_add-result-2 : goal.overflow_add-result-2
overflow_add-result-2 c = omega (arith, half_small c.args.f.not_too_wide, gap_fits c.args.pattern c.args.exact)

pub returns : goal.returns
returns c = gives_cell c.args.f.n c.args.pattern c.args.exact c.power32.ensures
