-- `tiles::inner::plain::plain_fault` meets its contract: each number joined passes 2^63 where its test fails (`Faults`).
use Rattle.tiles.proofs.Faults.{mark_fits, plain_judged}
use Rattle.tiles.proofs.inner.plain.plain_fault.Goals as goal

pub overflow_sub-end : goal.overflow_sub-end
overflow_sub-end c =
    mark_fits c.args.n c.args.w c.requires.0 c.requires.1 c.ranges.w.fits c.power-all.ensures

pub returns : goal.returns
returns c =
    plain_judged c.args.n c.args.w c.requires.0 c.requires.1 c.ranges.w.fits c.power-all.ensures
