-- `cell::inner::add::subtract_word` meets its contract: the negated range has the cells of the negatives (`Difference`).
use Rattle.posit.proofs.Formats.{within}
use Rattle.word.proofs.RealWords.{cells_at_hand}
use Rattle.cell.proofs.Difference.{negative_word}
use Rattle.cell.proofs.inner.add.subtract_word.Goals as goal

pub cells_of-requires : goal.cells_of-requires
cells_of-requires c = c.turned.ensures.smallest.real

pub add_cells-requires : goal.add_cells-requires
add_cells-requires c = (
  c.requires.0,
  cells_at_hand (within c.args.f) c.turned.ensures.smallest.real c.cells_of.ensures,
)

pub returns : goal.returns
returns c =
    negative_word _ _ c.args.f.wide_enough c.requires.1 c.turned.ensures
    c.args.x c.cells_of.ensures c.add_cells.ensures
