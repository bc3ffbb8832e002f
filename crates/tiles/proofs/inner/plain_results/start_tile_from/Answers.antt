-- `tiles::inner::plain_results::start_tile_from` meets its contract: the tile of a cell above that of 0 is its distance from the cells up to 0 (`PlainResults`).
use Rattle.tiles.proofs.PlainResults.{start_tile_found}
use Rattle.tiles.proofs.inner.plain_results.start_tile_from.Goals as goal

pub returns : goal.returns
returns c = rw c.power32.ensures (start_tile_found c.args.f.n c.args.f.wide_enough c.args.s c.args.t c.requires.0 c.requires.1)
