-- `posit::inner::divide::divide_posits` meets its contract: each case of the decoded operands is a law of `Divided`.
use Rattle.posit.proofs.Formats.{within}
use Rattle.posit.proofs.Divided.{zero_over, numbers_over}
use Rattle.posit.proofs.inner.divide.divide_posits.Goals as goal

pub returns-in-Zero-unpack : goal.returns-in-Zero-unpack
returns-in-Zero-unpack c =
    zero_over _ _ _ _ c.in-Zero-unpack.ensures.decodes c.in-Finite.ensures.decodes.finite.not_nar c.in-Finite.ensures.decodes.not_zero

pub returns-in-Finite-unpack : goal.returns-in-Finite-unpack
returns-in-Finite-unpack c =
    numbers_over c.quotient.result (within c.args.f) c.in-Finite-unpack.ensures c.in-Finite.ensures c.quotient.ensures c.round_magnitude.ensures
