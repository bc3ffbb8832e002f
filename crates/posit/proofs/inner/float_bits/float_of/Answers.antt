-- `posit::inner::float_bits::float_of` meets its contract: sign, exponent and digits are put at their places, and reading them gives the number back.
use Rattle.std.proofs.Common.{arith}
use Rattle.posit.proofs.FloatMade.{biased_sum_fits, biased_fits, highest_few, exponent_most, leading, no_more, size_fits, positive_made, negative_made, number_bits}
use Rattle.posit.proofs.inner.float_bits.float_of.Goals as goal

pub overflow_add-exponent : goal.overflow_add-exponent
overflow_add-exponent c = biased_sum_fits c.args.x.small

pub overflow_cast-exponent : goal.overflow_cast-exponent
overflow_cast-exponent c = biased_fits c.args.x.small

pub overflow_mul-size : goal.overflow_mul-size
overflow_mul-size c = record { fits = omega (arith, exponent_most c.args.x.small c.highest_bit-h.ensures) }

pub overflow_sub-h : goal.overflow_sub-h
overflow_sub-h c = omega (arith, highest_few c.args.x.small c.highest_bit-h.ensures)

pub overflow_mul-size-2 : goal.overflow_mul-size-2
overflow_mul-size-2 c = rw c.power.ensures (record { fits = omega (arith, no_more c.args.x.small c.highest_bit-h.ensures) })

pub overflow_sub-size : goal.overflow_sub-size
overflow_sub-size c = rw c.power.ensures (leading c.args.x.small c.highest_bit-h.ensures)

pub overflow_add-size : goal.overflow_add-size
overflow_add-size c = rw c.power.ensures (record { fits = omega (arith, size_fits c.args.x.small c.highest_bit-h.ensures) })

pub overflow_add-result : goal.overflow_add-result
overflow_add-result c = rw c.power.ensures (record { fits = omega (arith, size_fits c.args.x.small c.highest_bit-h.ensures) })

pub float_from_bits-result : goal.float_from_bits-result
float_from_bits-result c =
    rw c.power.ensures
    (number_bits _ (negative_made c.args.x.small c.highest_bit-h.ensures c.requires))

pub returns-then-x : goal.returns-then-x
returns-then-x c =
    rw (c.power.ensures, c.if-x.true)
    (negative_made c.args.x.small c.highest_bit-h.ensures c.requires)

pub float_from_bits-result-2 : goal.float_from_bits-result-2
float_from_bits-result-2 c =
    rw c.power.ensures
    (number_bits _ (positive_made c.args.x.small c.highest_bit-h.ensures c.requires))

pub returns : goal.returns
returns c =
    rw (c.power.ensures, c.if-x.false)
    (positive_made c.args.x.small c.highest_bit-h.ensures c.requires)
