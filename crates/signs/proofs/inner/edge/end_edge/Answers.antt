-- `signs::inner::edge::end_edge` meets its contract: the number of a posit above 0 is half its cell's distance from the cells up to 0.
use Rattle.signs.proofs.ReachedCells.{end_counted}
use Rattle.signs.proofs.inner.edge.end_edge.Goals as goal

pub returns : goal.returns
returns c = rw (c.top_cell.ensures, c.power32.ensures, end_counted c.args.f.n c.args.f.wide_enough c.requires)
