-- `range::operate::subtract` meets its contract: in a format the call is judged by its two words.
use Rattle.call.specs.declared.operation.Operation.TheVariants.{Subtract}
use Rattle.call.proofs.Answered.{passes_on}
use Rattle.range.proofs.Operations.{outside_limits, by_operands}
use Rattle.range.proofs.operate.subtract.Goals as goal

pub returns-in_err-new : goal.returns-in_err-new
returns-in_err-new c = passes_on _ _ _ c.from_residual.ensures (outside_limits _ _ _ _ _ c.in_err-new.ensures)

pub returns : goal.returns
returns c = by_operands c.in_ok-new.field-0 Subtract c.args.a c.args.b _ c.in_ok-new.ensures c.judged.ensures
