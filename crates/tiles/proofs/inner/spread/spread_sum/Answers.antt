-- `tiles::inner::spread::spread_sum` meets its contract: the left range lies across 0 where its start lies below it, and else above (`Spreading`), and the sums reach
-- from that of the starts to that of the ends.
use Rattle.posit.proofs.Formats.{within}
use Rattle.tiles.proofs.Spreading.{across_here, plain_here, real_of_spread}
use Rattle.tiles.proofs.PlainCells.{plain_tiles, plain_start, real_of_plain}
use Rattle.tiles.proofs.AcrossCells.{across_tiles}
use Rattle.tiles.proofs.PlainResults as plain
use Rattle.tiles.proofs.AcrossResults as across
use Rattle.tiles.proofs.inner.spread.spread_sum.Goals as goal

pub start_tile-s-requires : goal.start_tile-s-requires
start_tile-s-requires c = (real_of_spread c.args.f.n c.args.a c.args.f.wide_enough c.requires.0).fits

pub start_tile-t-requires : goal.start_tile-t-requires
start_tile-t-requires c = (real_of_plain c.args.f.n c.args.b c.args.f.wide_enough c.requires.1).fits

pub end_tile-requires : goal.end_tile-requires
end_tile-requires c = (real_of_spread c.args.f.n c.args.a c.args.f.wide_enough c.requires.0).fits

pub end_tile-requires-2 : goal.end_tile-requires-2
end_tile-requires-2 c = (real_of_plain c.args.f.n c.args.b c.args.f.wide_enough c.requires.1).fits

pub across_start-requires : goal.across_start-requires
across_start-requires c =
    let k = across_tiles c.args.f.n c.args.a (across_here c.args.f.n c.args.a c.requires.0 c.starts_below.ensures c.if-starts_below.true) in
    (rw c.start_tile-s.ensures k.behind_nar, rw c.start_tile-s.ensures k.there, rw c.start_tile-t.ensures (plain_start (plain_tiles c.args.f.n c.args.b c.requires.1)))

pub returns-then-starts_below : goal.returns-then-starts_below
returns-then-starts_below c =
    across.sum_found (within c.args.f) c.args.a c.args.b (across_here c.args.f.n c.args.a c.requires.0 c.starts_below.ensures c.if-starts_below.true) c.requires.1
    (rw (c.start_tile-s.ensures, c.start_tile-t.ensures) at c.across_start.ensures)
    (rw (c.end_tile.ensures, c.end_tile-2.ensures) at c.sum_end_tile-end.ensures) c.joined.ensures

pub sum_start_tile-requires : goal.sum_start_tile-requires
sum_start_tile-requires c =
    let left = plain_tiles c.args.f.n c.args.a (plain_here c.args.f.n c.args.a c.requires.0 c.starts_below.ensures c.if-starts_below.false) in
    (rw c.start_tile-s.ensures (plain_start left), rw c.start_tile-t.ensures (plain_start (plain_tiles c.args.f.n c.args.b c.requires.1)))

pub returns : goal.returns
returns c =
    plain.sum_found (within c.args.f) c.args.a c.args.b (plain_here c.args.f.n c.args.a c.requires.0 c.starts_below.ensures c.if-starts_below.false) c.requires.1
    (rw (c.start_tile-s.ensures, c.start_tile-t.ensures) at c.sum_start_tile.ensures)
    (rw (c.end_tile.ensures, c.end_tile-2.ensures) at c.sum_end_tile-end.ensures) c.joined-2.ensures
