-- `signs::inner::signs::either_sign` meets its contract: it puts the results of both signs together.
use Rattle.signs.proofs.ReachedCells.{positive_cells}
use Rattle.signs.proofs.inner.signs.either_sign.Goals as goal

pub turned_cells-requires : goal.turned_cells-requires
turned_cells-requires g c = (c.args.f.not_too_wide, rw c.positive_results-across.ensures (positive_cells c.args.f.n c.args.f.wide_enough c.args.f.es g.S.Scaling.divides c.args.p c.args.below))
