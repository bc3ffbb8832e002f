-- `code::inner::form::ones_from` meets its contract: what passes the word is dropped before the addition as after it.
use Rattle.std.proofs.Common.{arith}
use Rattle.code.proofs.inner.form.ones_from.Goals as goal

pub returns : goal.returns
returns c = rw c.power.ensures (omega arith)
