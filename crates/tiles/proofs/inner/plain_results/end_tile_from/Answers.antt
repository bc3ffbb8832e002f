-- `tiles::inner::plain_results::end_tile_from` meets its contract: the tile of a cell above that of 0 is its distance from the cells up to 0 (`PlainResults`).
use Rattle.tiles.proofs.PlainResults.{end_tile_found}
use Rattle.tiles.proofs.inner.plain_results.end_tile_from.Goals as goal

pub returns : goal.returns
returns c = rw c.power32.ensures (end_tile_found c.args.n c.requires.0 c.args.s c.args.t c.requires.2 c.requires.3)
