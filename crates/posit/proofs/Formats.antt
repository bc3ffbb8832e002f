-- A format's facts as the definitions have them.
use Rattle.posit.specs.Format as Spec
use Rattle.posit.specs.declared.inner.format.Format.{Format}

pub within : (f : Format) → Spec.Format f.n f.es
within f = record { wide_enough = f.wide_enough; not_too_wide = f.not_too_wide; exponent_fits = f.exponent_fits }
