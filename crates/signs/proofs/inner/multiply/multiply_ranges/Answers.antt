-- `signs::inner::multiply::multiply_ranges` meets its contract: the cells of the products are those that the exact products reach.
use Rattle.signs.proofs.ByStages.{product_found}
use Rattle.signs.proofs.inner.multiply.multiply_ranges.Goals as goal

pub returns : goal.returns
returns c =
    product_found c.args.f.n c.args.f.es c.args.f.wide_enough c.requires.0 c.requires.1 c.cells_of.ensures c.cells_of-2.ensures c.multiply_cells.ensures
