-- `code::inner::sum::total` meets its contract: codes that are brought near to each other add exactly as doubles, and the bits of their sum are its code.
use Rattle.code.proofs.SumCode.{both_held, brought_number, total_number, total_codes}
use Rattle.code.proofs.inner.sum.total.Goals as goal

pub raised-requires : goal.raised-requires
raised-requires c = both_held c.args.f.exponent_fits c.requires.0 c.requires.1

pub float_from_bits-result : goal.float_from_bits-result
float_from_bits-result c = brought_number c.args.f.exponent_fits c.requires.0 c.requires.1 c.raised.ensures

pub raised-requires-2 : goal.raised-requires-2
raised-requires-2 c = both_held c.args.f.exponent_fits c.requires.1 c.requires.0

pub float_from_bits-result-2 : goal.float_from_bits-result-2
float_from_bits-result-2 c = brought_number c.args.f.exponent_fits c.requires.1 c.requires.0 c.raised-2.ensures

pub float_to_bits-result : goal.float_to_bits-result
float_to_bits-result c = total_number c.args.f.exponent_fits c.requires.0 c.requires.1 c.raised.ensures c.raised-2.ensures

pub returns : goal.returns
returns c = total_codes c.args.f.exponent_fits c.requires.0 c.requires.1 c.raised.ensures c.raised-2.ensures
