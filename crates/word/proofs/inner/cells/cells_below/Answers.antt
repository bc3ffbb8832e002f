-- `word::inner::cells::cells_below` meets its contract: no cells are below any and any are below none; others are where the last of the left comes before the first of the right.
use native.Mathlib.Omega.{arith}
use Rattle.std.proofs.lemmas.Bool.Decides.{nat_tests}
use Rattle.word.proofs.Replies.{tells, below_spans}
use Rattle.word.proofs.inner.cells.cells_below.Goals as goal

pub returns-then-y : goal.returns-then-y
returns-then-y c = tells (below_spans _ _ c.requires.0 (c.requires.2, c.requires.3) c.cells_of-x.ensures c.cells_of-y.ensures) (grind (arith, nat_tests))

pub returns-else-y : goal.returns-else-y
returns-else-y c = tells (below_spans _ _ c.requires.0 (c.requires.2, c.requires.3) c.cells_of-x.ensures c.cells_of-y.ensures) (grind (arith, nat_tests))
