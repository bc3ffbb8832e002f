-- `column::inner::plains::write_plain` meets its contract: after i turns the first i answers stand at the front, and the rest is as it was.
use Rattle.std.proofs.Common.{length}
use Rattle.call.specs.Operation.{number_of}
use Rattle.column.specs.Column.{answers_of}
use Rattle.call.proofs.Copies.{Copied}
use Rattle.column.proofs.inner.plains.write_plain.Given as goal

abbrev pub invariant-loop-i : goal.invariant-loop-i
invariant-loop-i l = Copied l.initial.out (answers_of l.f.n l.f.es (number_of l.op) l.left l.right) (length l.yielded) l.out
