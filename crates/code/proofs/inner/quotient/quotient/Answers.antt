-- `code::inner::quotient::quotient` meets its contract: the double of the quotient is no NaN, and its bits without the last twelve tell it (`QuotientCode`).
use Rattle.std.proofs.Common.{arith}
use Rattle.code.proofs.CodeBits.{posit_number}
use Rattle.code.proofs.QuotientCode.{quotient_number, quotient_small, quotient_codes}
use Rattle.code.proofs.inner.quotient.quotient.Goals as goal

pub float_from_bits-result : goal.float_from_bits-result
float_from_bits-result c = posit_number c.args.f.exponent_fits c.requires.0

pub float_from_bits-result-2 : goal.float_from_bits-result-2
float_from_bits-result-2 c = posit_number c.args.f.exponent_fits c.requires.1

pub float_to_bits-result : goal.float_to_bits-result
float_to_bits-result c = quotient_number c.args.f.exponent_fits c.requires.0 c.requires.1

pub overflow_mul-result : goal.overflow_mul-result
overflow_mul-result c = record { fits = omega (arith, quotient_small c.args.f.exponent_fits c.requires.0 c.requires.1) }

pub returns : goal.returns
returns c = quotient_codes c.args.f.exponent_fits c.requires.0 c.requires.1
