-- `column::inner::plains::all_plain` meets its contract: all pairs are such where the faults joined so far are below 2^63 and the pairs left are such.
use Rattle.std.proofs.Common.{◌≡◌, ◌&&◌, ◌^◌, ltb, length, drop}
use Rattle.column.specs.Plains.{all_plain}
use Rattle.column.proofs.inner.plains.all_plain.Given as goal

abbrev pub invariant-loop-a : goal.invariant-loop-a
invariant-loop-a l = all_plain l.n l.left l.right ≡ (ltb l.faults (2 ^ 63) && all_plain l.n (drop (length l.yielded) l.left) (drop (length l.yielded) l.right))
