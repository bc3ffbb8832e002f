-- `posit::from_float::from_float` meets its contract: a format that is none is its one refusal, and in a format each float has its posit.
use Rattle.call.proofs.Answered.{passes_on}
use Rattle.posit.proofs.Formats.{within}
use Rattle.posit.proofs.Verdicts.{format_outside, format_judged}
use Rattle.posit.proofs.from_float.from_float.Goals as goal

pub returns-in_err-f : goal.returns-in_err-f
returns-in_err-f c = passes_on _ _ _ c.from_residual.ensures (rw c.in_err-f.ensures.0 (format_outside _ _ c.in_err-f.ensures.1))

pub returns : goal.returns
returns c = rw (c.in_ok-f.ensures.0, c.in_ok-f.ensures.1) (format_judged (within c.in_ok-f.f), c.posit_of.ensures)
