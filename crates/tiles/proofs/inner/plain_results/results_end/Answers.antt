-- `tiles::inner::plain_results::results_end` meets its contract: an open 0 of the right word leaves no limit, and the result of two posits above 0 lies above 0 (`Edges`).
use Rattle.std.proofs.Common.{ap, ◌∙◌, arith}
use Rattle.word.specs.Spans.{end_tile_at}
use Rattle.tiles.proofs.PlainCells.{start_posit_fits, end_posit_fits}
use Rattle.tiles.proofs.PlainResults.{result_cell_above}
use Rattle.tiles.proofs.Edges.{last_at}
use Rattle.tiles.proofs.inner.plain_results.results_end.Goals as goal

pub end_tile_from-requires : goal.end_tile_from-requires
end_tile_from-requires g c =
    let n = c.args.f.n in
    let wide = c.args.f.wide_enough in
    let above = result_cell_above n c.args.f.es wide (end_posit_fits n wide c.requires.0) (start_posit_fits n wide c.requires.1 c.if-t-eq-OPEN_ZERO.false) g.S.Scaling.divides c.cell.ensures in
    (wide, c.args.f.not_too_wide, above.0, above.1)

pub returns : goal.returns
returns g c =
    c.end_tile_from.ensures
    ∙ ap (end_tile_at c.args.f.n)
    (last_at c.args.f.n c.args.f.es g.S.Scaling.divides c.args.u c.args.t (λ e. omega (arith, c.requires.0)) c.if-t-eq-OPEN_ZERO.false c.cell.ensures)
