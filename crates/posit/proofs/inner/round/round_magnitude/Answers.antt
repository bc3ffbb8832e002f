-- `posit::inner::round::round_magnitude` meets its contract: the floor of the word's lower end and the mark give the rounding (`RoundKnown`).
use Rattle.std.proofs.Common.{arith}
use Rattle.posit.proofs.Formats.{within}
use Rattle.posit.proofs.RoundKnown.{pattern_fits, rounded_fits, rounded_each}
use Rattle.posit.proofs.inner.round.round_magnitude.Goals as goal

pub rounded-requires : goal.rounded-requires
rounded-requires c = (c.args.f.wide_enough, c.args.f.not_too_wide, pattern_fits (within c.args.f) c.args.x c.locate-at.ensures)

pub with_sign-requires : goal.with_sign-requires
with_sign-requires c =
    (omega (arith, c.args.f.not_too_wide), rounded_fits (within c.args.f) c.args.x c.locate-at.ensures c.rounded.ensures)

pub returns : goal.returns
returns c = rounded_each (within c.args.f) c.args.x c.locate-at.ensures c.args.negative c.rounded.ensures c.with_sign.ensures
