-- `posit::compare::compare` meets its contract: its tests are those of the verdict in the same order, and past them the patterns fit.
use Rattle.std.proofs.Common.{◌∙◌}
use Rattle.call.proofs.Answered.{passes_on}
use Rattle.posit.proofs.Formats.{within}
use Rattle.posit.proofs.Verdicts.{two_outside, two_judged, fits_of_verdicts}
use Rattle.posit.proofs.compare.compare.Goals as goal

pub returns-in_err-f : goal.returns-in_err-f
returns-in_err-f c = passes_on _ _ _ c.from_residual.ensures (rw c.in_err-f.ensures.0 (two_outside _ _ _ _ c.in_err-f.ensures.1))

pub returns-in_err-judge_posits : goal.returns-in_err-judge_posits
returns-in_err-judge_posits c =
    passes_on _ _ _ c.from_residual-in_err-judge_posits.ensures
    (rw (c.in_ok-f.ensures.0, c.in_ok-f.ensures.1) (two_judged (within c.in_ok-f.f) c.args.p c.args.q ∙ c.in_err-judge_posits.ensures))

pub order_of-requires : goal.order_of-requires
order_of-requires c = fits_of_verdicts c.in_ok-f.f.n c.args.p c.args.q c.in_ok-judge_posits.ensures.0

pub returns : goal.returns
returns c =
    rw (c.in_ok-f.ensures.0, c.in_ok-f.ensures.1)
    (two_judged (within c.in_ok-f.f) c.args.p c.args.q ∙ c.in_ok-judge_posits.ensures.0, c.order_of.ensures)
