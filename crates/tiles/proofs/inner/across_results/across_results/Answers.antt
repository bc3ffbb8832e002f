-- `tiles::inner::across_results::across_results` meets its contract: the results reach from the negative of that of the sizes to that of the ends (`AcrossResults`).
use Rattle.posit.proofs.Formats.{within}
use Rattle.tiles.proofs.PlainCells.{real_of_plain}
use Rattle.tiles.proofs.Edges.{last_start}
use Rattle.tiles.proofs.AcrossCells.{real_of_across}
use Rattle.tiles.proofs.AcrossResults.{size_end, last_end, end_tile_beyond, result_found}
use Rattle.tiles.proofs.inner.across_results.across_results.Goals as goal

pub start_tile-requires : goal.start_tile-requires
start_tile-requires g c = (real_of_across c.args.f.n c.args.a c.args.f.wide_enough c.requires.0).fits

pub last_tile-last-requires : goal.last_tile-last-requires
last_tile-last-requires g c = (real_of_plain c.args.f.n c.args.b c.args.f.wide_enough c.requires.1).fits

pub results_end-below-requires : goal.results_end-below-requires
results_end-below-requires g c = (
  rw (c.negated_tile-s.ensures, c.start_tile.ensures) (size_end (within c.args.f) c.args.a c.args.b c.requires.0 c.requires.1),
  rw c.last_tile-last.ensures (last_start c.args.f.n c.args.b c.requires.1 g.S.Scaling.divides),
)

pub end_tile-requires : goal.end_tile-requires
end_tile-requires g c = (real_of_across c.args.f.n c.args.a c.args.f.wide_enough c.requires.0).fits

pub results_end-above-requires : goal.results_end-above-requires
results_end-above-requires g c = (
  rw c.end_tile.ensures (last_end (within c.args.f) c.args.a c.args.b c.requires.0 c.requires.1),
  rw c.last_tile-last.ensures (last_start c.args.f.n c.args.b c.requires.1 g.S.Scaling.divides),
)

pub negated_tile-requires : goal.negated_tile-requires
negated_tile-requires g c =
    end_tile_beyond (within c.args.f) c.args.a c.args.b c.requires.0 c.requires.1 g.S.Scaling.divides
    (rw (c.negated_tile-s.ensures, c.start_tile.ensures, c.last_tile-last.ensures) at c.results_end-below.ensures)

pub returns : goal.returns
returns g c =
    result_found (within c.args.f) c.args.a c.args.b c.requires.0 c.requires.1 g.S.Scaling.divides
    (rw (c.negated_tile-s.ensures, c.start_tile.ensures, c.last_tile-last.ensures) at c.results_end-below.ensures) c.negated_tile.ensures
    (rw (c.end_tile.ensures, c.last_tile-last.ensures) at c.results_end-above.ensures) c.joined.ensures
