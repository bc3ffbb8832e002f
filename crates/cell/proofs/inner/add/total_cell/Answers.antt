-- `cell::inner::add::total_cell` meets its contract: the codes say what the posits are, so their exact sum has its step.
use Rattle.posit.proofs.Formats.{within}
use Rattle.cell.proofs.ResultCell.{known_fits, known_cell, same_total}
use Rattle.cell.proofs.inner.add.total_cell.Goals as goal

pub above_zero-requires : goal.above_zero-requires
above_zero-requires c = known_fits (within c.args.f) c.total.ensures c.step_of.ensures

pub returns : goal.returns
returns c = known_cell (within c.args.f) c.total.ensures c.step_of.ensures (same_total c.code_of.ensures c.code_of-2.ensures) c.above_zero.ensures
