-- `cell::inner::signed::signed_form` meets its contract: a posit above NaR's pattern is the negative of the negated one (`SumCells`).
use lib.Dec.{leb}
use Rattle.posit.proofs.Formats.{within}
use Rattle.cell.proofs.CellFrom.{mark_fits}
use Rattle.cell.proofs.SumCells.{size_fits, signed_of}
use Rattle.cell.proofs.inner.signed.signed_form.Goals as goal

pub chosen-requires : goal.chosen-requires
chosen-requires c = mark_fits (leb c.power32.result c.args.p)

pub code_of-size-requires : goal.code_of-size-requires
code_of-size-requires c =
    let (more, less) = size_fits (within c.args.f) c.requires.0 c.requires.1 c.power32.ensures c.negated.ensures c.chosen.ensures in
    (more, less)

pub returns : goal.returns
returns c =
    signed_of (within c.args.f) c.requires.0 c.requires.1 c.power32.ensures c.negated.ensures c.chosen.ensures c.code_of-size.ensures
