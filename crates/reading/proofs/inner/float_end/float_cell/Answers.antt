-- `reading::inner::float_end::float_cell` meets its contract: an infinity has the given cell, 0 the middle one, and what is left is known exactly by its digits.
use mathlib.Core.Path.{refl, sym, subst}
use native.Mathlib.Omega.{arith}
use lib.Dec.{T}
use lib.Pow.{pow_pos}
use lib.Ieee.{Float, binary64}
use lib.Ieee.Bits.{of_bits-to_bits}
use Rattle.posit.specs.Floats.{PartsOfFloat}
use Rattle.posit.proofs.FloatRead.{is_infinite, is_nothing, is_number}
use Rattle.reading.proofs.Readings.{is_no_nan, no_number_cell, nothing_cell, number_cell}
use Rattle.reading.proofs.inner.float_end.float_cell.Goals as goal
use Rattle.reading.proofs.inner.float_end.float_cell.Goals.{After-float_parts}

-- the parts are the float's own
parts : (c : After-float_parts) → PartsOfFloat c.args.x c.float_parts.result
parts c = subst (λ (y : Float). PartsOfFloat y c.float_parts.result) (of_bits-to_bits binary64 c.args.x (subst T (sym c.well_formed.1.0.1) tt)) c.float_parts.ensures

pub float_to_bits-x : goal.float_to_bits-x
float_to_bits-x c = is_no_nan _ c.requires

pub overflow_sub-result : goal.overflow_sub-result
overflow_sub-result c = omega (arith, c.power32.ensures, pow_pos c.args.f.n)

pub digits_magnitude-requires : goal.digits_magnitude-requires
digits_magnitude-requires c =
    let p = is_number c.args.x (parts (goal.at.digits_magnitude-requires c).After-float_parts) c.in-Number.is in
    (p.some, p.few, p.shift_fits)

pub returns-in-Infinite : goal.returns-in-Infinite
returns-in-Infinite c =
    no_number_cell _ _ c.args.f.wide_enough c.args.x _ _ (is_infinite c.args.x (parts (goal.at.returns-in-Infinite c).After-float_parts) c.in-Infinite.is) refl

pub returns-in-Nothing : goal.returns-in-Nothing
returns-in-Nothing c =
    nothing_cell _ c.args.f.es c.args.f.wide_enough c.args.x c.args.unbounded _
    (is_nothing c.args.x (parts (goal.at.returns-in-Nothing c).After-float_parts) c.in-Nothing.is) c.power32.ensures

pub returns-in-Number : goal.returns-in-Number
returns-in-Number c =
    let number = is_number c.args.x (parts (goal.at.returns-in-Number c).After-float_parts) c.in-Number.is in
    number_cell _ c.args.f.es c.args.f.wide_enough c.args.x c.args.unbounded _ _ number.exactly
    (c.cell_of.ensures _ c.digits_magnitude.ensures)
