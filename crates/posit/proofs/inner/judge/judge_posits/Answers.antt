-- `posit::inner::judge::judge_posits` meets its contract: the left operand's refusal stays, and past it the right one's verdict is left.
use Rattle.call.proofs.Answered.{passes_on}
use Rattle.posit.proofs.Verdicts.{posits_by_left, posits_by_right}
use Rattle.posit.proofs.inner.judge.judge_posits.Goals as goal

pub returns-in_err-judge_posit : goal.returns-in_err-judge_posit
returns-in_err-judge_posit c =
    passes_on _ _ _ c.from_residual.ensures
    (posits_by_left c.args.f.n c.args.p c.args.q _ c.in_err-judge_posit.ensures)

pub returns : goal.returns
returns c = posits_by_right c.args.f.n c.args.p c.args.q c.in_ok-judge_posit.ensures.0 _ c.judge_posit-2.ensures
