-- `posit::operate::operate` meets its contract: the format is tested first, then the number, and past both the call is that of its operation.
use Rattle.call.proofs.Answered.{passes_on}
use Rattle.posit.proofs.Calls.{outside_limits, no_operation, by_posits}
use Rattle.posit.proofs.operate.operate.Goals as goal

pub returns-in_err-f : goal.returns-in_err-f
returns-in_err-f c = passes_on _ _ _ c.from_residual.ensures (outside_limits _ _ _ _ _ c.in_err-f.ensures)

pub returns-in_err-try_from : goal.returns-in_err-try_from
returns-in_err-try_from c = passes_on _ _ _ c.from_residual-in_err-try_from.ensures (no_operation _ _ _ _ _ c.in_ok-f.f c.in_ok-f.ensures c.in_err-try_from.ensures)

pub returns : goal.returns
returns c = rw (← c.in_ok-try_from.ensures) (by_posits c.in_ok-f.f c.in_ok-try_from.field-0 c.args.p c.args.q _ c.in_ok-f.ensures c.judged.ensures)
