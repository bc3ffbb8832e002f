-- `posit::inner::multiply::multiply_posits` meets its contract: each case of the decoded operands is a law of `Multiplied`.
use Rattle.std.proofs.Common.{sym, ◌∙◌}
use Rattle.posit.proofs.Formats.{within}
use Rattle.posit.proofs.Multiplied.{zero_times, times_zero, numbers_times}
use Rattle.posit.proofs.inner.multiply.multiply_posits.Goals as goal

pub returns-else-q-nar : goal.returns-else-q-nar
returns-else-q-nar c = zero_times _ _ _ _ c.in-Zero.ensures.decodes (λ e. c.if-q-nar.false (e ∙ sym c.power32-nar.ensures))

pub returns-in-Zero-unpack : goal.returns-in-Zero-unpack
returns-in-Zero-unpack c = times_zero _ _ _ _ c.in-Finite.ensures.decodes.finite.not_nar c.in-Zero-unpack.ensures.decodes

pub returns-in-Finite-unpack : goal.returns-in-Finite-unpack
returns-in-Finite-unpack c =
    numbers_times c.product.result (within c.args.f) c.in-Finite.ensures c.in-Finite-unpack.ensures c.product.ensures c.round_magnitude.ensures
