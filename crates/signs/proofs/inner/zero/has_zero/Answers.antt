-- `signs::inner::zero::has_zero` meets its contract: 0 is a member where its cell is one of the range's cells (`HasZero`).
use Rattle.posit.proofs.Formats.{within}
use mathlib.Core.Path.{◌∙◌}
use Rattle.signs.proofs.HasZero.{zero_member}
use Rattle.signs.proofs.inner.zero.has_zero.Goals as goal

pub returns : goal.returns
returns c = c.has_zero.ensures ∙ zero_member (within c.args.f) c.requires c.cells_of.ensures
