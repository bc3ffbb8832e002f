-- `posit::inner::power::negated` meets its contract: a difference that wraps at 32 bits, cut to n bits, wraps at n bits.
use Rattle.std.proofs.Common.{arith}
use Rattle.posit.proofs.Machine.{wraps_at}
use Rattle.posit.proofs.inner.power.negated.Goals as goal

pub returns : goal.returns
returns c =
    rw c.power32.ensures
    (wraps_at c.args.n 32 _ c.args.p (omega arith) (omega arith) c.requires.1 (omega (arith, c.ranges.p.fits)))
