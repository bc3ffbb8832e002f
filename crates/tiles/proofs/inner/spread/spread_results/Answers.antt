-- `tiles::inner::spread::spread_results` meets its contract: the left range lies across 0 where its start lies below it, and else above (`Spreading`).
use Rattle.tiles.proofs.Spreading.{plain_here}
use Rattle.tiles.proofs.inner.spread.spread_results.Goals as goal

pub plain_results-requires : goal.plain_results-requires
plain_results-requires g c =
    (plain_here c.args.f.n c.args.a c.requires.0 c.starts_below.ensures c.if-starts_below.false, c.requires.1)
