-- `cell::inner::cell::posit_at` meets its contract: it computes `pattern_at` itself.
use native.Mathlib.Omega.{arith}
use lib.Pow.{pow_pos}
use Rattle.cell.proofs.CellFrom.{posit_fits}
use Rattle.cell.proofs.inner.cell.posit_at.Goals as goal

pub overflow_add-result : goal.overflow_add-result
overflow_add-result c = omega (arith, posit_fits c.args.k c.args.f.wide_enough c.args.f.not_too_wide (omega arith) c.power32.ensures)

pub overflow_add-result-2 : goal.overflow_add-result-2
overflow_add-result-2 c = omega (arith, posit_fits c.args.k c.args.f.wide_enough c.args.f.not_too_wide (omega arith) c.power32.ensures)

pub nonzero_rem-result : goal.nonzero_rem-result
nonzero_rem-result c = omega (arith, pow_pos c.args.f.n)

pub returns : goal.returns
returns c = rw (c.power32.ensures, c.power32-2.ensures)
