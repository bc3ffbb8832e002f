-- `signs::inner::divide::divide_ranges` meets its contract: the cells of the quotients are those that the exact quotients reach.
use Rattle.signs.proofs.ByStages.{quotient_found}
use Rattle.signs.proofs.inner.divide.divide_ranges.Goals as goal

pub returns : goal.returns
returns c =
    quotient_found c.args.f.n c.args.f.es c.args.f.wide_enough c.requires.0 c.requires.1 c.cells_of.ensures c.cells_of-2.ensures c.divide_cells.ensures
