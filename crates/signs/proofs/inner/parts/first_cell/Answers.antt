-- `signs::inner::parts::first_cell` meets its contract: its tests are those of the definition.
use native.Mathlib.Omega.{arith}
use Rattle.posit.proofs.Formats.{within}
use Rattle.cell.proofs.ResultCell.{result_small}
use Rattle.signs.proofs.inner.parts.first_cell.Goals as goal

pub overflow_add-cell : goal.overflow_add-cell
overflow_add-cell g c =
    omega (arith, result_small c.args.f.n c.args.f.es g.S.Scaling.divides c.args.x.posit c.args.y.posit (within c.args.f) c.cell-cell.ensures)

pub overflow_mul-cell : goal.overflow_mul-cell
overflow_mul-cell g c =
    omega (arith, result_small c.args.f.n c.args.f.es g.S.Scaling.divides c.args.x.posit c.args.y.posit (within c.args.f) c.cell-cell.ensures)
