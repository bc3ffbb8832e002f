-- `posit::inner::unpack::odd_form` meets its contract: the significand over 2 to its trailing zeros is odd, and those zeros go to the scale.
use Rattle.posit.proofs.Formats.{within}
use Rattle.posit.proofs.OddForm.{odd_form}
use Rattle.posit.proofs.inner.unpack.odd_form.Goals as goal

pub returns : goal.returns
returns c =
    rw (c.power32-2.ensures, c.power32.ensures)
    (odd_form (within c.args.f) c.take_apart-x.ensures _ c.requires.1)
