-- `code::inner::sum::signed_sum` meets its contract: codes that are brought near to each other add exactly as doubles, and the bits of their sum are its sign and its code.
use Rattle.std.proofs.Common.{arith}
use Rattle.code.proofs.SumCode.{both_held, brought_less, brought_signed, sign_held, signed_number, signed_none, signed_some}
use Rattle.code.proofs.inner.sum.signed_sum.Goals as goal

pub overflow_mul-left : goal.overflow_mul-left
overflow_mul-left c = omega (arith, sign_held c.args.x.negative)

pub raised-requires : goal.raised-requires
raised-requires c = both_held c.args.f.exponent_fits c.requires.0 c.requires.1

pub overflow_add-left : goal.overflow_add-left
overflow_add-left c = omega (arith, sign_held c.args.x.negative, brought_less c.args.f.exponent_fits c.requires.0 c.requires.1 c.raised.ensures)

pub float_from_bits-left : goal.float_from_bits-left
float_from_bits-left c = brought_signed c.args.f.exponent_fits c.requires.0 c.requires.1 c.raised.ensures c.args.x.negative

pub overflow_mul-right : goal.overflow_mul-right
overflow_mul-right c = omega (arith, sign_held c.args.y.negative)

pub raised-requires-2 : goal.raised-requires-2
raised-requires-2 c = both_held c.args.f.exponent_fits c.requires.1 c.requires.0

pub overflow_add-right : goal.overflow_add-right
overflow_add-right c = omega (arith, sign_held c.args.y.negative, brought_less c.args.f.exponent_fits c.requires.1 c.requires.0 c.raised-2.ensures)

pub float_from_bits-right : goal.float_from_bits-right
float_from_bits-right c = brought_signed c.args.f.exponent_fits c.requires.1 c.requires.0 c.raised-2.ensures c.args.y.negative

pub float_to_bits-bits : goal.float_to_bits-bits
float_to_bits-bits c =
    signed_number c.args.f.exponent_fits c.requires.0 c.requires.1 c.raised.ensures c.raised-2.ensures c.args.x.negative c.args.y.negative

pub returns-then-size-eq0 : goal.returns-then-size-eq0
returns-then-size-eq0 c =
    signed_none c.args.f.exponent_fits c.requires.0 c.requires.1 c.raised.ensures c.raised-2.ensures c.args.x.negative c.args.y.negative c.if-size-eq0.true

pub returns : goal.returns
returns c =
    signed_some c.args.f.exponent_fits c.requires.0 c.requires.1 c.raised.ensures c.raised-2.ensures c.args.x.negative c.args.y.negative c.if-size-eq0.false
