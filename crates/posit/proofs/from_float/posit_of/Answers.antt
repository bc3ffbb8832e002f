-- `posit::from_float::posit_of` meets its contract: NaN gives NaR, and any other float is read from its own bits.
use Rattle.std.proofs.Common.{T, sym, subst}
use Rattle.posit.proofs.FloatExact.{nan_rounded, own_bits}
use Rattle.posit.proofs.from_float.posit_of.Goals as goal

pub returns-then-is_nan : goal.returns-then-is_nan
returns-then-is_nan c = nan_rounded _ _ c.args.x (sym c.if-is_nan.ensures.value) c.power32.ensures

pub returns : goal.returns
returns c = own_bits _ _ c.args.x _ (subst T (sym c.well_formed.1.0.1) tt) c.from_pattern.ensures
