-- `cell::inner::add::posit_cell` meets its contract: it computes the posit's number itself.
use Prim.Native.Nat.{◌+◌, ◌-◌}
use native.Mathlib.Omega.{arith}
use lib.Pow.{pow_pos}
use Rattle.posit.proofs.Mirror.{nar_is_half}
use Rattle.posit.proofs.Patterns.{some_bit}
use Rattle.word.proofs.Tiles.{half_small}
use Rattle.cell.proofs.CellFrom.{number_small}
use Rattle.cell.proofs.inner.add.posit_cell.Goals as goal

pub overflow_add-result : goal.overflow_add-result
overflow_add-result c = omega (arith, half_small c.args.f.not_too_wide, nar_is_half c.args.f.n (some_bit c.args.f.n c.args.f.wide_enough))

pub overflow_sub-result : goal.overflow_sub-result
overflow_sub-result c = omega (arith, pow_pos (c.args.f.n - 1))

pub nonzero_rem-result : goal.nonzero_rem-result
nonzero_rem-result c = omega (arith, pow_pos c.args.f.n)

pub overflow_mul-result : goal.overflow_mul-result
overflow_mul-result c = omega (arith, number_small (c.args.p + c.power32.result - 1) c.args.f.not_too_wide c.power32-2.ensures)

pub overflow_add-result-2 : goal.overflow_add-result-2
overflow_add-result-2 c = omega (arith, number_small (c.args.p + c.power32.result - 1) c.args.f.not_too_wide c.power32-2.ensures)

pub returns : goal.returns
returns c = rw (c.power32.ensures, c.power32-2.ensures)
