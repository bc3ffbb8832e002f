-- `signs::inner::edge::start_edge` meets its contract: the number of a posit above 0 is half its cell's distance from the cells up to 0.
use Rattle.signs.proofs.ReachedCells.{start_by_count}
use Rattle.signs.proofs.inner.edge.start_edge.Goals as goal

pub returns : goal.returns
returns c = rw (c.power32-first.ensures, start_by_count c.args.f.n c.args.f.wide_enough c.requires.above c.requires.there)
