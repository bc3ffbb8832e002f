-- `reading::inner::float_end::infinity` meets its contract: its two patterns are read as the infinities.
use mathlib.Core.Path.{sym, ap, ◌∙◌}
use mathlib.Core.Bool.{true, false}
use lib.Ieee.{inf, nan_bits}
use Rattle.reading.proofs.Readings.{infinity_read}
use Rattle.reading.proofs.inner.float_end.infinity.Goals as goal

pub float_from_bits-result : goal.float_from_bits-result
unfolding nan_bits
float_from_bits-result c = tt

pub returns-then-negative : goal.returns-then-negative
returns-then-negative c = infinity_read true ∙ ap inf (sym c.if-negative.true)

pub float_from_bits-result-2 : goal.float_from_bits-result-2
unfolding nan_bits
float_from_bits-result-2 c = tt

pub returns : goal.returns
returns c = infinity_read false ∙ ap inf (sym c.if-negative.false)
