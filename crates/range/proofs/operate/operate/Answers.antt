-- `range::operate::operate` meets its contract: the format is tested first, then the number, and past both the call is that of its operation.
use Rattle.call.proofs.Answered.{passes_on}
use Rattle.range.proofs.Operations.{outside_limits, no_operation, by_operands}
use Rattle.range.proofs.operate.operate.Goals as goal

pub returns-in_err-f : goal.returns-in_err-f
returns-in_err-f c = passes_on _ _ _ c.from_residual.ensures (outside_limits _ _ _ _ _ c.in_err-f.ensures)

pub returns-in_err-try_from : goal.returns-in_err-try_from
returns-in_err-try_from c = passes_on _ _ _ c.from_residual-in_err-try_from.ensures (no_operation _ _ _ _ _ c.in_ok-f.f c.in_ok-f.ensures c.in_err-try_from.ensures)

pub returns : goal.returns
returns c = rw (← c.in_ok-try_from.ensures) (by_operands c.in_ok-f.f c.in_ok-try_from.field-0 c.args.a c.args.b _ c.in_ok-f.ensures c.judged.ensures)
