-- `code::inner::product::product` meets its contract: the double of the product is no NaN, and its bits tell it (`ProductCode`).
use Rattle.code.proofs.CodeBits.{posit_number}
use Rattle.code.proofs.ProductCode.{product_number, product_codes}
use Rattle.code.proofs.inner.product.product.Goals as goal

pub float_from_bits-result : goal.float_from_bits-result
float_from_bits-result c = posit_number c.args.f.exponent_fits c.requires.0

pub float_from_bits-result-2 : goal.float_from_bits-result-2
float_from_bits-result-2 c = posit_number c.args.f.exponent_fits c.requires.1

pub float_to_bits-result : goal.float_to_bits-result
float_to_bits-result c = product_number c.args.f.exponent_fits c.requires.0 c.requires.1

pub returns : goal.returns
returns c = product_codes c.args.f.exponent_fits c.requires.0 c.requires.1
