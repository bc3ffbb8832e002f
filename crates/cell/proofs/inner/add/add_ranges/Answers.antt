-- `cell::inner::add::add_ranges` meets its contract: the answer is the sum of the cells of both ranges (`SumRange`).
use Rattle.posit.proofs.Formats.{within}
use Rattle.cell.proofs.SumRange.{sum_found}
use Rattle.word.proofs.RealWords.{cells_at_hand}
use Rattle.cell.proofs.inner.add.add_ranges.Goals as goal

pub add_cells-requires : goal.add_cells-requires
add_cells-requires c = (
  cells_at_hand (within c.args.f) c.requires.0 c.cells_of.ensures,
  cells_at_hand (within c.args.f) c.requires.1 c.cells_of-2.ensures,
)

pub returns : goal.returns
returns c =
    sum_found _ _ c.args.f.wide_enough c.requires.0 c.requires.1
    c.cells_of.ensures c.cells_of-2.ensures c.add_cells.ensures
