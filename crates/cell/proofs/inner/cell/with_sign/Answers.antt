-- `cell::inner::cell::with_sign` meets its contract: the cells of the negatives are counted from the other end.
use Rattle.cell.proofs.CellFrom.{mark_fits, gives_sign}
use Rattle.cell.proofs.inner.cell.with_sign.Goals as goal

pub chosen-requires : goal.chosen-requires
chosen-requires c = mark_fits c.args.negative

pub returns : goal.returns
returns c = gives_sign c.args.n c.args.cell c.args.negative c.top_cell.ensures c.chosen.ensures
