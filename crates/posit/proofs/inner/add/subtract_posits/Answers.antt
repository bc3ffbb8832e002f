-- `posit::inner::add::subtract_posits` meets its contract: the sum with the negated posit is the difference.
use Rattle.posit.proofs.Formats.{within}
use Rattle.posit.proofs.Added.{negated_plus}
use Rattle.posit.proofs.inner.add.subtract_posits.Goals as goal

pub returns : goal.returns
returns c = negated_plus (within c.args.f) c.requires.1 (rw c.negated.ensures at c.add_posits.ensures)
