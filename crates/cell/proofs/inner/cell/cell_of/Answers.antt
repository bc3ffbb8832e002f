-- `cell::inner::cell::cell_of` meets its contract: the floor of the word's lower end is that of everything the word knows (`CellFrom`).
use Rattle.posit.proofs.Formats.{within}
use Rattle.posit.proofs.RoundKnown.{pattern_fits}
use Rattle.cell.proofs.CellFrom.{from_fits_as, found_each}
use Rattle.cell.proofs.inner.cell.cell_of.Goals as goal

pub cell_from-requires : goal.cell_from-requires
cell_from-requires c = pattern_fits (within c.args.f) c.args.x c.locate-at.ensures

pub with_sign-requires : goal.with_sign-requires
with_sign-requires c = (c.args.f.not_too_wide, from_fits_as (within c.args.f) c.args.x c.locate-at.ensures _ c.cell_from.ensures)

pub returns : goal.returns
returns c =
    found_each (within c.args.f) c.args.x c.locate-at.ensures
    c.args.negative c.cell_from.ensures c.with_sign.ensures
