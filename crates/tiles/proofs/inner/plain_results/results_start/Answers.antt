-- `tiles::inner::plain_results::results_start` meets its contract: an open 0 is no limit, and the result of two posits above 0 lies above 0 (`Edges`).
use Rattle.std.proofs.Common.{ap, ◌∙◌}
use Rattle.word.specs.Spans.{start_tile_at}
use Rattle.tiles.proofs.PlainCells.{start_posit_fits}
use Rattle.tiles.proofs.Edges.{first_at}
use Rattle.tiles.proofs.PlainResults.{result_cell_above}
use Rattle.tiles.proofs.inner.plain_results.results_start.Goals as goal

pub start_tile_from-requires : goal.start_tile_from-requires
start_tile_from-requires g c =
    let n = c.args.f.n in
    let wide = c.args.f.wide_enough in
    result_cell_above n c.args.f.es wide (start_posit_fits n wide c.requires.0 c.if-s-eq-OPEN_ZERO.false) (start_posit_fits n wide c.requires.1 c.if-t-eq-OPEN_ZERO.false)
    g.S.Scaling.divides c.cell.ensures

pub returns : goal.returns
returns g c =
    c.start_tile_from.ensures
    ∙ ap (start_tile_at c.args.f.n)
    (first_at c.args.f.n c.args.f.es g.S.Scaling.divides c.args.s c.args.t c.if-s-eq-OPEN_ZERO.false c.if-t-eq-OPEN_ZERO.false c.cell.ensures)
