-- `posit::inner::add::add_finite` meets its contract: what the exact sum is, is rounded, and no sum at all is 0.
use Rattle.posit.proofs.Formats.{within}
use Rattle.posit.proofs.Added.{some_rounds}
use Rattle.posit.proofs.inner.add.add_finite.Goals as goal

pub returns-in-Some : goal.returns-in-Some
returns-in-Some c = some_rounds _ _ c.in-Some.sum.size (within c.args.f) c.in-Some.ensures c.round_magnitude.ensures
