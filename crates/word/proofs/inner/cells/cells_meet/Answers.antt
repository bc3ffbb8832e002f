-- `word::inner::cells::cells_meet` meets its contract: they do where both have cells and neither lies wholly before the other.
use native.Mathlib.Omega.{arith}
use Rattle.std.proofs.lemmas.Bool.Decides.{nat_tests}
use Rattle.word.proofs.Replies.{tells, meets_spans}
use Rattle.word.proofs.inner.cells.cells_meet.Goals as goal

pub returns-then-x-y : goal.returns-then-x-y
returns-then-x-y c = tells (meets_spans _ _ c.requires.0 (c.requires.2, c.requires.3) c.cells_of-x.ensures c.cells_of-y.ensures) (grind (arith, nat_tests))

pub returns-else-x-y : goal.returns-else-x-y
returns-else-x-y c = tells (meets_spans _ _ c.requires.0 (c.requires.2, c.requires.3) c.cells_of-x.ensures c.cells_of-y.ensures) (grind (arith, nat_tests))
