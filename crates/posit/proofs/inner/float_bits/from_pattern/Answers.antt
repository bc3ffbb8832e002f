-- `posit::inner::float_bits::from_pattern` meets its contract: an infinity gives NaR, 0 gives 0, and what is left is known exactly by its digits, and so rounded.
use Rattle.posit.proofs.Formats.{within}
use Rattle.std.proofs.Common.{ℕ}
use lib.Ieee.{Float, binary64, of_bits}
use Rattle.posit.proofs.FloatRead.{is_number, number_rounded}
use Rattle.posit.proofs.inner.float_bits.from_pattern.Goals as goal

-- the float that the bits say
abbrev float : ℕ → Float
float bits = of_bits binary64 bits

pub returns-in-Number : goal.returns-in-Number
returns-in-Number c =
    let number = is_number (float c.args.bits) c.float_parts.ensures c.in-Number.is in
    number_rounded (within c.args.f) (float c.args.bits) number.exactly (c.round_magnitude.ensures _ c.digits_magnitude.ensures)
