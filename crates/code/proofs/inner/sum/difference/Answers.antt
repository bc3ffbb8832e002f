-- `code::inner::sum::difference` meets its contract: codes that are brought near to each other keep their order, and the difference of their doubles is exact.
use Rattle.code.proofs.SumCode.{both_held, brought_number, apart_number, apart_some}
use Rattle.code.proofs.inner.sum.difference.Goals as goal

pub raised-requires : goal.raised-requires
raised-requires c = both_held c.args.f.exponent_fits c.requires.0 c.requires.1

pub float_from_bits-result : goal.float_from_bits-result
float_from_bits-result c = brought_number c.args.f.exponent_fits c.requires.0 c.requires.1 c.raised.ensures

pub raised-requires-2 : goal.raised-requires-2
raised-requires-2 c = both_held c.args.f.exponent_fits c.requires.1 c.requires.0

pub float_from_bits-result-2 : goal.float_from_bits-result-2
float_from_bits-result-2 c = brought_number c.args.f.exponent_fits c.requires.1 c.requires.0 c.raised-2.ensures

pub float_to_bits-result : goal.float_to_bits-result
float_to_bits-result c = apart_number c.args.f.exponent_fits c.requires.0 c.requires.1 c.raised.ensures c.raised-2.ensures

pub returns : goal.returns
returns c = apart_some c.args.f.exponent_fits c.requires.0 c.requires.1 c.raised.ensures c.raised-2.ensures c.requires.2
