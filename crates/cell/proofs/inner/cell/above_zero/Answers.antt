-- `cell::inner::cell::above_zero` meets its contract: the numbers are small.
use native.Mathlib.Omega.{arith}
use Rattle.word.proofs.Tiles.{half_small}
use Rattle.cell.proofs.inner.cell.above_zero.Goals as goal

pub overflow_add-result : goal.overflow_add-result
overflow_add-result c = rw c.power32.ensures (record { fits = omega (arith, half_small c.args.f.not_too_wide, c.requires) })
