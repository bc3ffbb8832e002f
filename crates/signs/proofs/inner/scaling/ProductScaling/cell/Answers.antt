-- `signs::inner::scaling::ProductScaling::cell` meets its contract: the codes say what the posits are, so their exact product has its step.
use Rattle.posit.proofs.Formats.{within}
use Rattle.cell.proofs.ResultCell.{known_fits, known_cell, same_product}
use Rattle.signs.proofs.inner.scaling.ProductScaling.cell.Goals as goal

pub above_zero-requires : goal.above_zero-requires
above_zero-requires c = known_fits (within c.args.f) c.product.ensures c.step_of.ensures

pub returns : goal.returns
returns c = known_cell (within c.args.f) c.product.ensures c.step_of.ensures (same_product c.code_of.ensures c.code_of-2.ensures) c.above_zero.ensures
