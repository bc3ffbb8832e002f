-- `posit::inner::product::product` meets its contract: the words hold the exact product, of small forms and so with room for the bits below it.
use Rattle.std.proofs.Common.{arith}
use Rattle.posit.proofs.SmallScale.{lifted_most, sum_fits, cast_fits, cast_is}
use Rattle.posit.proofs.KnownProduct.{some_product, small_product, product_known}
use Rattle.posit.proofs.inner.product.product.Goals as goal

pub overflow_add-result : goal.overflow_add-result
overflow_add-result c = sum_fits c.args.x.small

pub overflow_cast-result-3 : goal.overflow_cast-result-3
overflow_cast-result-3 c = cast_fits c.args.x.small

pub overflow_add-result-2 : goal.overflow_add-result-2
overflow_add-result-2 c = sum_fits c.args.y.small

pub overflow_cast-result-4 : goal.overflow_cast-result-4
overflow_cast-result-4 c = cast_fits c.args.y.small

pub returns : goal.returns
returns c = rw (cast_is c.args.x.small, cast_is c.args.y.small) (product_known c.args.x c.args.y)

pub invariant_of-result-clause-g_from : goal.invariant_of-result-clause-g_from
invariant_of-result-clause-g_from c = omega (arith, some_product c.args.x c.args.y)

pub invariant_of-result-clause-g_below : goal.invariant_of-result-clause-g_below
invariant_of-result-clause-g_below c = omega (arith, small_product c.args.x c.args.y)

pub invariant_of-result-clause-s_below : goal.invariant_of-result-clause-s_below
invariant_of-result-clause-s_below c =
    rw (cast_is c.args.x.small, cast_is c.args.y.small) (omega (arith, lifted_most c.args.x.small, lifted_most c.args.y.small))
