-- `code::inner::raised::raised` meets its contract: the product is the double of a code twenty-six scales below y, and the greater double is that of the greater code.
use Rattle.std.proofs.Common.{arith}
use Rattle.code.proofs.CodeBits.{plain_number}
use Rattle.code.proofs.Higher.{below_number, raised_number, raised_bits}
use Rattle.code.proofs.inner.raised.raised.Goals as goal

pub float_from_bits-least : goal.float_from_bits-least
float_from_bits-least c = plain_number c.args.y (omega (arith, c.requires.2)) c.requires.3

pub float_from_bits-least-2 : goal.float_from_bits-least-2
float_from_bits-least-2 c = below_number

pub float_from_bits-x : goal.float_from_bits-x
float_from_bits-x c = plain_number c.args.x c.requires.0 c.requires.1

pub float_to_bits-result : goal.float_to_bits-result
float_to_bits-result c =
    rw c.greater.ensures (raised_number c.args.x c.args.y c.requires.0 c.requires.1 c.requires.2 c.requires.3)

pub returns : goal.returns
returns c =
    rw c.greater.ensures (raised_bits c.args.x c.args.y c.requires.0 c.requires.1 c.requires.2 c.requires.3)
