-- `posit::inner::locate::behind_run` meets its contract: the mark is 0 below the middle and 1 from it on (`Chosen`), and each choice is then the run's.
use Rattle.std.proofs.Common.{◌+◌, ◌*◌, ◌≤◌, arith}
use Rattle.posit.proofs.Bounds.{double_within}
use Rattle.posit.proofs.Chosen.{behind_is_few}
use Rattle.posit.proofs.inner.locate.behind_run.Goals as goal
use Rattle.posit.proofs.inner.locate.behind_run.Goals.{After-chosen-w, After-power32}

few : (c : After-chosen-w) → c.chosen-w.result + 2 ≤ c.args.f.n
few c = behind_is_few c.args.f.n c.args.regime c.chosen-w.ensures c.args.f.not_too_wide c.requires.0

within : (c : After-power32) → c.chosen-w.result + 2 ≤ c.args.f.n → 2 * c.power32-unit.result ≤ c.power32.result
within c h = double_within c.chosen-w.result c.args.f.n (omega arith) c.power32.ensures c.power32-unit.ensures

pub overflow_sub-power32 : goal.overflow_sub-power32
overflow_sub-power32 c = within c (few (goal.at.overflow_sub-power32 c).After-chosen-w)
