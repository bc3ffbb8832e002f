-- `posit::encode::pack` meets its contract: each form of a decoded posit is encoded by a law of `Packing`.
use Rattle.posit.proofs.Formats.{within}
use Rattle.std.proofs.Common.{arith, rules}
use Rattle.posit.proofs.Packing.{posit_fits, number_encodes}
use Rattle.posit.proofs.encode.pack.Goals as goal

pub with_sign-requires : goal.with_sign-requires
with_sign-requires c =
    (omega (arith, c.args.f.not_too_wide), posit_fits (within c.args.f) c.locate_scaled-x.ensures (omega arith) c.rounded.ensures)

pub returns-else-fraction-eq0 : goal.returns-else-fraction-eq0
returns-else-fraction-eq0 c =
    number_encodes (within c.args.f) c.locate_scaled-x.ensures (omega arith)
    c.in-Finite.is (search rules) c.rounded.ensures c.with_sign.ensures
