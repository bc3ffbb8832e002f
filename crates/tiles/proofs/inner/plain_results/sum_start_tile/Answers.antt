-- `tiles::inner::plain_results::sum_start_tile` meets its contract: beyond an open 0 the sums start at the other start, open, else at the sum of the two (`SumTiles`).
use Rattle.tiles.proofs.PlainCells.{start_posit_fits, start_finite}
use Rattle.tiles.proofs.PlainResults.{sum_cell_above}
use Rattle.tiles.proofs.SumTiles.{sums_start, sums_from_left, sums_from_right}
use Rattle.tiles.proofs.inner.plain_results.sum_start_tile.Goals as goal

pub returns-then-s-eq-OPEN_ZERO : goal.returns-then-s-eq-OPEN_ZERO
returns-then-s-eq-OPEN_ZERO c =
    let wide = c.args.f.wide_enough in
    sums_from_right c.args.f.n c.args.f.es wide c.args.s c.args.t (start_finite c.args.f.n wide c.requires.0) (start_finite c.args.f.n wide c.requires.1) c.if-s-eq-OPEN_ZERO.true

pub returns-then-t-eq-OPEN_ZERO : goal.returns-then-t-eq-OPEN_ZERO
returns-then-t-eq-OPEN_ZERO c =
    let wide = c.args.f.wide_enough in
    sums_from_left c.args.f.n c.args.f.es wide c.args.s c.args.t (start_finite c.args.f.n wide c.requires.0) (start_finite c.args.f.n wide c.requires.1) c.if-t-eq-OPEN_ZERO.true

pub start_tile_from-requires : goal.start_tile_from-requires
start_tile_from-requires c =
    let wide = c.args.f.wide_enough in
    let p = start_posit_fits c.args.f.n wide c.requires.0 c.if-s-eq-OPEN_ZERO.false in
    let q = start_posit_fits c.args.f.n wide c.requires.1 c.if-t-eq-OPEN_ZERO.false in
    sum_cell_above c.args.f.n c.args.f.es wide p q c.total_cell.ensures

pub returns : goal.returns
returns c =
    let wide = c.args.f.wide_enough in
    sums_start c.args.f.n c.args.f.es wide c.args.s c.args.t (start_finite c.args.f.n wide c.requires.0) (start_finite c.args.f.n wide c.requires.1) c.total_cell.ensures c.start_tile_from.ensures
