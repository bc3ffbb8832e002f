-- `word::inner::cells::cells_inside` meets its contract: no cells are inside any, and others are where neither end lies beyond.
use native.Mathlib.Omega.{arith}
use Rattle.std.proofs.lemmas.Bool.Decides.{nat_tests}
use Rattle.word.proofs.Replies.{tells, inside_spans}
use Rattle.word.proofs.inner.cells.cells_inside.Goals as goal

pub returns-then-x : goal.returns-then-x
returns-then-x c = tells (inside_spans _ _ c.requires.0 (c.requires.2, c.requires.3) c.cells_of-x.ensures c.cells_of-y.ensures) (grind (arith, nat_tests))

pub returns-then-y-x : goal.returns-then-y-x
returns-then-y-x c = tells (inside_spans _ _ c.requires.0 (c.requires.2, c.requires.3) c.cells_of-x.ensures c.cells_of-y.ensures) (grind (arith, nat_tests))

pub returns-else-y-x : goal.returns-else-y-x
returns-else-y-x c = tells (inside_spans _ _ c.requires.0 (c.requires.2, c.requires.3) c.cells_of-x.ensures c.cells_of-y.ensures) (grind (arith, nat_tests))
