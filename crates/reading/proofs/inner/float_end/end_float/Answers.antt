-- `reading::inner::float_end::end_float` meets its contract: zero is +0.0, NaR stands for unbounded, and any other posit is the float of its decoded form.
use native.Mathlib.Omega.{arith}
use Rattle.posit.proofs.Mirror.{power_wider}
use Rattle.posit.proofs.FloatExact.{zero_float, odd_float}
use Rattle.reading.proofs.GoingOut.{unbounded_out, posit_out}
use Rattle.reading.proofs.inner.float_end.end_float.Goals as goal

pub unpack-requires : goal.unpack-requires
unpack-requires c = omega (arith, c.requires.0, power_wider c.args.f.n)

pub returns-in-Zero : goal.returns-in-Zero
returns-in-Zero c =
    posit_out _ _ c.args.negative c.args.tile (zero_float _ _ c.in-Zero.ensures.decodes)

pub returns-in-Nar : goal.returns-in-Nar
returns-in-Nar c =
    unbounded_out _ _ c.args.negative c.args.tile c.requires.1 c.in-Nar.ensures.decodes c.infinity.ensures

pub returns-in-Finite : goal.returns-in-Finite
returns-in-Finite c =
    posit_out _ _ c.args.negative c.args.tile (odd_float c.in-Finite.ensures c.float_of.ensures)
