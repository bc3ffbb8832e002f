-- `posit::operate::judged` meets its contract: past the tests of the operands both fit.
use Rattle.posit.proofs.Verdicts.{fits_of_verdicts}
use Rattle.posit.proofs.operate.judged.Goals as goal

pub worked-requires : goal.worked-requires
worked-requires c = fits_of_verdicts c.args.f.n c.args.p c.args.q c.in_ok-judge_posits.ensures.0
