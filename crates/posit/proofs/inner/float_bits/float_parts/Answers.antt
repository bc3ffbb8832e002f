-- `posit::inner::float_bits::float_parts` meets its contract: its tests are those of the float's exponent field, and what is left are its digits.
use Rattle.std.proofs.Common.{arith}
use Rattle.posit.proofs.FloatRead.{ones_parts, nothing_parts, small_parts, normal_parts}
use Rattle.posit.proofs.inner.float_bits.float_parts.Goals as goal

pub returns-then-exponent-eq-INFINITE : goal.returns-then-exponent-eq-INFINITE
returns-then-exponent-eq-INFINITE c = ones_parts _ c.if-exponent-eq-INFINITE.true

pub returns-then-size-eq0 : goal.returns-then-size-eq0
returns-then-size-eq0 c = nothing_parts _ c.if-size-eq0.true

pub returns-then-exponent-eq0 : goal.returns-then-exponent-eq0
returns-then-exponent-eq0 c = small_parts _ c.if-exponent-eq0.true c.if-size-eq0.false

pub returns : goal.returns
returns c = normal_parts _ (omega arith) (omega arith)
