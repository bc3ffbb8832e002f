-- `code::inner::raised::greater` meets its contract: the branch is the choice.
use Rattle.code.proofs.inner.raised.greater.Goals as goal

pub returns-then-x-y : goal.returns-then-x-y
returns-then-x-y c = rw c.if-x-y.true

pub returns : goal.returns
returns c = rw c.if-x-y.false
