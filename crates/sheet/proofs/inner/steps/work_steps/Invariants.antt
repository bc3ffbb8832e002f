-- `sheet::inner::steps::work_steps` meets its contract: while no step is refused, the rows so far and the steps left come to what all steps come to.
use Rattle.std.proofs.Common.{◌≡◌, ◌+◌, ◌*◌, length, drop}
use Rattle.sheet.specs.Sheet.{steps_of}
use Rattle.sheet.proofs.Steps.{Working}
use Rattle.sheet.proofs.inner.steps.work_steps.Given as goal

abbrev pub invariant-loop-op : goal.invariant-loop-op
invariant-loop-op l =
    (length l.rows.items ≡ length l.fn.rows.items + l.op-index)
    × Working l.f.n l.f.es l.fn.rows.items (steps_of l.steps) l.rows.items (steps_of (drop (3 * l.op-index) l.steps))
