-- `posit::encode::encode` meets its contract: a format that is none is its one refusal, and in a format each decoded posit is packed.
use Rattle.call.proofs.Answered.{passes_on}
use Rattle.posit.proofs.Formats.{within}
use Rattle.posit.proofs.Verdicts.{format_outside, format_judged}
use Rattle.posit.proofs.encode.encode.Goals as goal

pub returns-in_err-f : goal.returns-in_err-f
returns-in_err-f c = passes_on _ _ _ c.from_residual.ensures (rw c.in_err-f.ensures.0 (format_outside _ _ c.in_err-f.ensures.1))

pub returns : goal.returns
returns c = rw (c.in_ok-f.ensures.0, c.in_ok-f.ensures.1) (format_judged (within c.in_ok-f.f), c.pack.ensures)
