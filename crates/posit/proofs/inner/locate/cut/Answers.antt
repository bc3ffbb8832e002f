-- `posit::inner::locate::cut` meets its contract: the power that divides is not 0, and what is left of x has at most 16 bits.
use Rattle.std.proofs.Common.{arith}
use Rattle.posit.proofs.Bounds.{tail_small}
use Rattle.posit.proofs.inner.locate.cut.Goals as goal

pub overflow_cast-result : goal.overflow_cast-result
overflow_cast-result c = rw c.power-unit.ensures (record { fits = omega (arith, tail_small c.args.w c.args.width c.args.x c.requires.1 c.requires.2 c.requires.4) })

pub overflow_add-result : goal.overflow_add-result
overflow_add-result c = rw c.power-unit.ensures (record { fits = omega (arith, tail_small c.args.w c.args.width c.args.x c.requires.1 c.requires.2 c.requires.4) })
