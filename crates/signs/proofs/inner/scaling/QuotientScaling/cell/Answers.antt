-- `signs::inner::scaling::QuotientScaling::cell` meets its contract: the codes say what the posits are, so their exact quotient has its step.
use Rattle.posit.proofs.Formats.{within}
use Rattle.cell.proofs.ResultCell.{known_cell, same_quotient}
use Rattle.signs.proofs.inner.scaling.QuotientScaling.cell.Goals as goal

pub returns : goal.returns
returns c = known_cell (within c.args.f) c.quotient.ensures c.step_of.ensures (same_quotient c.code_of.ensures c.code_of-2.ensures) c.above_zero.ensures
