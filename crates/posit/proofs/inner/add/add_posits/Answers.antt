-- `posit::inner::add::add_posits` meets its contract: each case of the decoded operands is a law of `Added`.
use Rattle.posit.proofs.Formats.{within}
use Rattle.posit.proofs.Added.{zero_plus, plus_zero, numbers_plus}
use Rattle.posit.proofs.inner.add.add_posits.Goals as goal

pub returns-in-Zero : goal.returns-in-Zero
returns-in-Zero c = zero_plus _ _ _ _ c.requires.1 c.in-Zero.ensures.decodes

pub returns-in-Zero-unpack : goal.returns-in-Zero-unpack
returns-in-Zero-unpack c = plus_zero _ _ _ _ c.in-Finite.ensures.decodes.finite c.in-Zero-unpack.ensures.decodes

pub returns-in-Finite-unpack : goal.returns-in-Finite-unpack
returns-in-Finite-unpack c = numbers_plus (within c.args.f) c.in-Finite.ensures c.in-Finite-unpack.ensures c.add_finite.ensures
