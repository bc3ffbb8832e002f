-- `posit::inner::wide::widened` meets its contract: a number of 14 bits moved up by 112 stays within 128 bits.
use Rattle.std.proofs.Common.{◌+◌, arith, lt_of_lt_of_le, mod-eq_of_lt, pow_mono, shl_lt}
use Rattle.posit.proofs.inner.wide.widened.Goals as goal

pub returns : goal.returns
returns c =
    rw c.from.ensures (mod-eq_of_lt (lt_of_lt_of_le (shl_lt 14 c.args.e c.requires.0) (pow_mono {i = 14 + c.args.e} {j = 128} (omega arith))))
