-- `word::inner::word::cells_of` meets its contract: no tile of a real range is a closed NaR, so both have their cells.
use Rattle.word.proofs.Places.{start_tile_of_word, end_tile_of_word}
use Rattle.word.proofs.RealWords.{start_not_nar, end_not_nar}
use Rattle.word.proofs.inner.word.cells_of.Goals as goal

pub start_cell-lo-requires : goal.start_cell-lo-requires
start_cell-lo-requires c =
    rw c.start_tile.ensures (start_tile_of_word _ c.args.f.wide_enough c.requires.fits, start_not_nar _ c.args.f.wide_enough c.requires)

pub end_cell-hi-requires : goal.end_cell-hi-requires
end_cell-hi-requires c =
    rw c.end_tile.ensures (end_tile_of_word _ c.args.f.wide_enough _, end_not_nar _ c.args.f.wide_enough c.requires)
