-- `posit::inner::sum::difference` meets its contract: the larger size loses the smaller one and gives the sign, and where nothing is left the difference is 0.
use Rattle.std.proofs.Common.{arith, refl}
use Rattle.posit.proofs.Summed.{none_left, first_smaller, first_larger}
use Rattle.posit.proofs.inner.sum.difference.Goals as goal

pub returns-then-x-y : goal.returns-then-x-y
returns-then-x-y c = none_left c.args.negative _ _ c.if-x-y.true

pub returns-then-x-y-2 : goal.returns-then-x-y-2
returns-then-x-y-2 c = first_smaller c.args.negative _ _ _ c.narrowed.result (omega arith) refl c.narrowed.ensures

pub returns : goal.returns
returns c = first_larger c.args.negative _ _ _ c.narrowed-2.result (omega arith) refl c.narrowed-2.ensures
