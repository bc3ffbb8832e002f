-- `posit::inner::sum::exact_sum` meets its contract: both numbers are whole multiples of 2^-56, of at most 2^112 units, and are added or subtracted by their signs.
use Rattle.std.proofs.Common.{arith, refl}
use Rattle.posit.proofs.SmallScale.{lifted_most, sum_fits, sum_is, cast_is}
use Rattle.posit.proofs.Summed.{size_less, size_some, same_signs, other_signs}
use Rattle.posit.proofs.inner.sum.exact_sum.Goals as goal

pub overflow_add-x : goal.overflow_add-x
overflow_add-x c = sum_fits c.args.x.small

pub overflow_cast-x : goal.overflow_cast-x
overflow_cast-x c = rw (sum_is c.args.x.small) (tt, omega (arith, lifted_most c.args.x.small))

pub widened-left-requires : goal.widened-left-requires
widened-left-requires c = rw (cast_is c.args.x.small) (c.args.x.small.few, lifted_most c.args.x.small)

pub overflow_add-y : goal.overflow_add-y
overflow_add-y c = sum_fits c.args.y.small

pub overflow_cast-y : goal.overflow_cast-y
overflow_cast-y c = rw (sum_is c.args.y.small) (tt, omega (arith, lifted_most c.args.y.small))

pub widened-right-requires : goal.widened-right-requires
widened-right-requires c = rw (cast_is c.args.y.small) (c.args.y.small.few, lifted_most c.args.y.small)

pub overflow_add-left : goal.overflow_add-left
overflow_add-left c =
    record { fits = omega (arith, size_less c.args.x c.widened-left.ensures, size_less c.args.y c.widened-right.ensures) }

pub narrowed-requires : goal.narrowed-requires
narrowed-requires c = omega (arith, size_some c.args.x c.widened-left.ensures)

pub returns-then-x-y : goal.returns-then-x-y
returns-then-x-y c =
    same_signs c.args.x c.args.y c.widened-left.ensures c.widened-right.ensures _ c.narrowed.result c.if-x-y.true refl c.narrowed.ensures

pub returns : goal.returns
returns c = other_signs c.args.x c.args.y c.widened-left.ensures c.widened-right.ensures _ c.if-x-y.false c.difference.ensures
