-- `reading::inner::float_end::bad_reading` meets its contract: its tests are those of a bad reading, in their order.
use Rattle.std.proofs.Common.{T, refl, sym, subst}
use Rattle.reading.proofs.Readings.{hit, miss, is_infinity_says, is_no_infinity}
use Rattle.reading.proofs.inner.float_end.bad_reading.Goals as goal

pub returns-then-low-eq-PLUS_INFINITY : goal.returns-then-low-eq-PLUS_INFINITY
returns-then-low-eq-PLUS_INFINITY c =
    miss (sym c.if-is_nan.ensures.value) (miss (sym c.if-is_nan-2.ensures.value)
    (hit _ (is_infinity_says _ c.args.low (subst T (sym c.well_formed.0.1) tt) c.if-low-eq-PLUS_INFINITY.true)))

pub returns-then-high-eq-MINUS_INFINITY : goal.returns-then-high-eq-MINUS_INFINITY
returns-then-high-eq-MINUS_INFINITY c =
    miss (sym c.if-is_nan.ensures.value) (miss (sym c.if-is_nan-2.ensures.value) (miss (is_no_infinity _ c.args.low c.if-low-eq-PLUS_INFINITY.false)
    (hit _ (is_infinity_says _ c.args.high (subst T (sym c.well_formed.1.0.1) tt) c.if-high-eq-MINUS_INFINITY.true))))

pub returns : goal.returns
returns c =
    miss (sym c.if-is_nan.ensures.value) (miss (sym c.if-is_nan-2.ensures.value)
    (miss (is_no_infinity _ c.args.low c.if-low-eq-PLUS_INFINITY.false) (miss (is_no_infinity _ c.args.high c.if-high-eq-MINUS_INFINITY.false) refl)))
