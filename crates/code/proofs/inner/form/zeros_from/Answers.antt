-- `code::inner::form::zeros_from` meets its contract: width and exponent size are small, so that every step fits.
use Rattle.posit.proofs.Formats.{within}
use Rattle.std.proofs.Common.{refl, arith}
use Rattle.code.proofs.Form.{stretched_least, stretched_most}
use Rattle.code.proofs.inner.form.zeros_from.Goals as goal

pub overflow_mul-result : goal.overflow_mul-result
overflow_mul-result c = rw c.power.ensures (record { fits = omega (arith, stretched_most (within c.args.f)) })

pub overflow_sub-result : goal.overflow_sub-result
overflow_sub-result c = rw c.power.ensures (stretched_least (within c.args.f))

pub overflow_mul-result-2 : goal.overflow_mul-result-2
overflow_mul-result-2 c = rw c.power.ensures (record { fits = omega (arith, stretched_most (within c.args.f)) })

pub returns : goal.returns
returns c = rw c.power.ensures refl
