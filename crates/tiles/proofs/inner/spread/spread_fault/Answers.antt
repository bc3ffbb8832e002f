-- `tiles::inner::spread::spread_fault` meets its contract: each number joined passes 2^63 where its test fails (`Faults`).
use Rattle.std.proofs.Common.{arith}
use Rattle.word.proofs.Tiles.{half_large}
use Rattle.tiles.proofs.Faults.{mark_fits, spread_judged}
use Rattle.tiles.proofs.inner.spread.spread_fault.Goals as goal

pub overflow_sub-end : goal.overflow_sub-end
overflow_sub-end c =
    mark_fits c.args.n c.args.w c.requires.0 c.requires.1 c.ranges.w.fits c.power-all.ensures

pub overflow_sub-result : goal.overflow_sub-result
overflow_sub-result c =
    omega (arith, c.power-half.ensures, half_large c.requires.0)

pub returns : goal.returns
returns c =
    spread_judged c.args.n c.args.w c.requires.0 c.requires.1 c.ranges.w.fits c.power-all.ensures c.power-half.ensures
