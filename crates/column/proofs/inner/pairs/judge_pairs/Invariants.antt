-- `column::inner::pairs::judge_pairs` meets its contract: after i turns the first i pairs pass, so the verdict is that of the pairs left.
use Rattle.std.proofs.Common.{◌≡◌, length, drop}
use Rattle.call.specs.Verdict.{first_hit}
use Rattle.column.specs.Column.{pairs_tests}
use Rattle.column.proofs.inner.pairs.judge_pairs.Given as goal

abbrev pub invariant-loop-i : goal.invariant-loop-i
invariant-loop-i l =
    first_hit (pairs_tests l.f.n l.f.es l.op 0 l.left l.right)
    ≡ first_hit (pairs_tests l.f.n l.f.es l.op (length l.yielded) (drop (length l.yielded) l.left) (drop (length l.yielded) l.right))
