-- `code::inner::flip::flipped` meets its contract: 0 less the mark, wrapping, is no bit or every bit.
use Rattle.code.proofs.Flip.{flipped_by}
use Rattle.code.proofs.inner.flip.flipped.Goals as goal

pub returns : goal.returns
returns c = flipped_by c.args.mark c.requires c.ranges.x.fits c.wrapping_neg.type_inv c.wrapping_neg.ensures
