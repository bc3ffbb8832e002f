-- `posit::decode::decode` meets its contract: its two tests are those of the verdict, in their order, and what passes both is unpacked.
use Rattle.std.proofs.Common.{◌∙◌}
use Rattle.call.proofs.Answered.{passes_on}
use Rattle.posit.proofs.Formats.{within}
use Rattle.posit.proofs.Verdicts.{one_outside, one_judged, fits_of_verdict}
use Rattle.posit.proofs.decode.decode.Goals as goal

pub returns-in_err-f : goal.returns-in_err-f
returns-in_err-f c = passes_on _ _ _ c.from_residual.ensures (rw c.in_err-f.ensures.0 (one_outside _ _ _ c.in_err-f.ensures.1))

pub returns-in_err-judge_posit : goal.returns-in_err-judge_posit
returns-in_err-judge_posit c =
    passes_on _ _ _ c.from_residual-in_err-judge_posit.ensures
    (rw (c.in_ok-f.ensures.0, c.in_ok-f.ensures.1) (one_judged (within c.in_ok-f.f) c.args.p ∙ c.in_err-judge_posit.ensures))

pub unpack-requires : goal.unpack-requires
unpack-requires c = fits_of_verdict c.in_ok-f.f.n 0 c.args.p c.in_ok-judge_posit.ensures.0

pub returns : goal.returns
returns c =
    rw (c.in_ok-f.ensures.0, c.in_ok-f.ensures.1)
    (one_judged (within c.in_ok-f.f) c.args.p ∙ c.in_ok-judge_posit.ensures.0, c.unpack.ensures.decodes)
