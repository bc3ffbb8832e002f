-- `cell::inner::add::subtract_ranges` meets its contract: the answer is the difference of the left range's cells and the right word (`Difference`).
use Rattle.posit.proofs.Formats.{within}
use Rattle.word.proofs.RealWords.{cells_at_hand}
use Rattle.cell.proofs.Difference.{difference_found}
use Rattle.cell.proofs.inner.add.subtract_ranges.Goals as goal

pub subtract_word-requires : goal.subtract_word-requires
subtract_word-requires c =
    (cells_at_hand (within c.args.f) c.requires.0 c.cells_of.ensures, c.requires.1)

pub returns : goal.returns
returns c =
    difference_found _ _ c.args.f.wide_enough c.requires.1 c.requires.0 c.cells_of.ensures c.subtract_word.ensures
