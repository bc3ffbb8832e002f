-- `posit::inner::quotient::quotient` meets its contract: the words hold the quotient down to 47 bits more than the dividend has, and the mark is set
-- exactly where a remainder is left.
use Rattle.posit.proofs.SmallScale.{sum_fits, cast_fits, cast_is}
use Rattle.posit.proofs.KnownQuotient.{quotient_known}
use Rattle.posit.proofs.inner.quotient.quotient.Goals as goal

pub overflow_add-result : goal.overflow_add-result
overflow_add-result c = sum_fits c.args.x.small

pub overflow_cast-result : goal.overflow_cast-result
overflow_cast-result c = cast_fits c.args.x.small

pub overflow_add-result-2 : goal.overflow_add-result-2
overflow_add-result-2 c = sum_fits c.args.y.small

pub overflow_cast-result-2 : goal.overflow_cast-result-2
overflow_cast-result-2 c = cast_fits c.args.y.small

pub returns : goal.returns
returns c = rw (cast_is c.args.x.small, cast_is c.args.y.small) (quotient_known c.args.x c.args.y)
