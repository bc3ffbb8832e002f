-- `tiles::inner::plain_results::plain_results` meets its contract: the results reach from that of the starts to that of the ends, with the right word's ends in their order (`PlainResults`).
use Rattle.posit.proofs.Formats.{within}
use Rattle.tiles.proofs.PlainCells.{plain_tiles, plain_end, real_of_plain}
use Rattle.tiles.proofs.Edges.{last_start}
use Rattle.tiles.proofs.PlainResults.{result_found}
use Rattle.tiles.proofs.inner.plain_results.plain_results.Goals as goal

pub start_tile-requires : goal.start_tile-requires
start_tile-requires g c = (real_of_plain c.args.f.n c.args.a c.args.f.wide_enough c.requires.0).fits

pub first_tile-requires : goal.first_tile-requires
first_tile-requires g c = (real_of_plain c.args.f.n c.args.b c.args.f.wide_enough c.requires.1).fits

pub end_tile-requires : goal.end_tile-requires
end_tile-requires g c = (real_of_plain c.args.f.n c.args.a c.args.f.wide_enough c.requires.0).fits

pub last_tile-requires : goal.last_tile-requires
last_tile-requires g c = (real_of_plain c.args.f.n c.args.b c.args.f.wide_enough c.requires.1).fits

pub results_end-end-requires : goal.results_end-end-requires
results_end-end-requires g c = (
  rw c.end_tile.ensures (plain_end (plain_tiles c.args.f.n c.args.a c.requires.0)),
  rw c.last_tile.ensures (last_start c.args.f.n c.args.b c.requires.1 g.S.Scaling.divides),
)

pub returns : goal.returns
returns g c =
    result_found (within c.args.f) c.args.a c.args.b c.requires.0 c.requires.1 g.S.Scaling.divides
    (rw (c.start_tile.ensures, c.first_tile.ensures) at c.results_start-start.ensures)
    (rw (c.end_tile.ensures, c.last_tile.ensures) at c.results_end-end.ensures) c.joined.ensures
