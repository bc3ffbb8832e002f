-- `posit::to_float::floated_of` meets its contract: zero is +0.0, NaR is its own case, and any other posit is the float of its decoded form.
use Rattle.posit.proofs.FloatExact.{zero_float}
use Rattle.posit.proofs.to_float.floated_of.Goals as goal

pub returns-in-Zero : goal.returns-in-Zero
returns-in-Zero c = zero_float _ _ c.in-Zero.ensures.decodes
