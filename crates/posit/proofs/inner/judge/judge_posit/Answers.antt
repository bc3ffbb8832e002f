-- `posit::inner::judge::judge_posit` meets its contract: its one test is the verdict's.
use Rattle.std.proofs.Common.{arith}
use Rattle.posit.proofs.Verdicts.{posit_large, posit_fits}
use Rattle.posit.proofs.inner.judge.judge_posit.Goals as goal

pub returns-then-power32-p : goal.returns-then-power32-p
returns-then-power32-p c = rw c.at.ensures (posit_large c.args.f.n c.args.place c.args.p (omega arith))

pub returns : goal.returns
returns c = (posit_fits c.args.f.n c.args.place c.args.p (omega arith), tt)
