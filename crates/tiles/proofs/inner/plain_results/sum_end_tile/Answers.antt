-- `tiles::inner::plain_results::sum_end_tile` meets its contract: the sums end at that of the two ends (`PlainResults`).
use Rattle.tiles.proofs.PlainCells.{end_posit_fits}
use Rattle.tiles.proofs.PlainResults.{sum_cell_above, sums_end}
use Rattle.tiles.proofs.inner.plain_results.sum_end_tile.Goals as goal

pub end_tile_from-requires : goal.end_tile_from-requires
end_tile_from-requires c =
    let wide = c.args.f.wide_enough in
    let above = sum_cell_above c.args.f.n c.args.f.es wide (end_posit_fits c.args.f.n wide c.requires.0) (end_posit_fits c.args.f.n wide c.requires.1) c.total_cell.ensures in
    (wide, c.args.f.not_too_wide, above.0, above.1)

pub returns : goal.returns
returns c =
    sums_end c.args.f.n c.args.f.es c.args.f.wide_enough c.requires.0 c.requires.1 c.total_cell.ensures c.end_tile_from.ensures
