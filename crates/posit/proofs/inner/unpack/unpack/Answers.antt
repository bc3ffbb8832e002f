-- `posit::inner::unpack::unpack` meets its contract: the patterns are 0, NaR, those below NaR, and those above it, which are negative.
use Rattle.std.proofs.Common.{◌/◌, arith}
use Rattle.posit.proofs.Apart.{FirstBit, first_bit}
use Rattle.posit.proofs.OddForm.{size_is_positive, unpacks_by_bit}
use Rattle.posit.proofs.inner.unpack.unpack.Goals as goal
use Rattle.posit.proofs.inner.unpack.unpack.Goals.{After-power32-nar}

-- ---- the sign is the first bit
bit : (c : After-power32-nar) → FirstBit c.args.f.n c.args.p (c.args.p / c.power32-nar.result)
bit c = first_bit c.args.f.n c.args.p (omega (arith, c.args.f.wide_enough)) c.requires c.power32-nar.ensures

pub odd_form-requires : goal.odd_form-requires
odd_form-requires c =
    size_is_positive c.args.f.es (omega (arith, c.args.f.wide_enough)) c.requires (bit (goal.at.odd_form-requires c).After-power32-nar) c.if-p-eq0.false c.power32-nar.ensures c.if-p-nar.false
    (rw c.negated.ensures at c.chosen-size.ensures)

pub returns : goal.returns
returns c =
    unpacks_by_bit c.args.f.es (omega (arith, c.args.f.wide_enough)) c.requires (bit (goal.at.returns c).After-power32-nar) c.if-p-eq0.false c.power32-nar.ensures c.if-p-nar.false
    (rw c.negated.ensures at c.chosen-size.ensures) c.odd_form.result c.odd_form.ensures
