-- `posit::inner::wide::narrowed` meets its contract: with its first bit moved to the front the number is cut below 62 bits, and what is cut off is marked.
use Rattle.posit.proofs.KnownWide.{cut_enough, cut_known}
use Rattle.posit.proofs.inner.wide.narrowed.Goals as goal

pub invariant_of-result-clause-g_from : goal.invariant_of-result-clause-g_from
invariant_of-result-clause-g_from c = cut_enough c.args.x c.requires c.ranges.x.fits

pub returns : goal.returns
returns c = rw c.from.ensures (cut_known c.args.x c.requires c.ranges.x.fits)
