-- `reading::reading::reading_word` meets its contract: the cells of the two floats are those that the exact bounds of the reading reach.
use Rattle.posit.proofs.Formats.{within}
use Rattle.reading.proofs.Readings.{good, reading_cells, reading_answer}
use Rattle.reading.proofs.reading.reading_word.Goals as goal

pub float_cell-lo-requires : goal.float_cell-lo-requires
float_cell-lo-requires c = (good _ _ c.requires).low_number

pub float_cell-hi-requires : goal.float_cell-hi-requires
float_cell-hi-requires c = (good _ _ c.requires).high_number

pub word_of-requires : goal.word_of-requires
word_of-requires c =
    let f = (within c.args.f) in
    let cells =
    reading_cells _ _ f.wide_enough c.args.low c.args.high _ _ _ c.float_cell-lo.ensures c.float_cell-hi.ensures c.top_cell.ensures
    in
    (cells)

pub returns : goal.returns
returns c =
    reading_answer _ _ c.args.f.wide_enough c.args.low c.args.high _ _ _ c.float_cell-lo.ensures c.float_cell-hi.ensures
    c.top_cell.ensures c.requires c.word_of.ensures
