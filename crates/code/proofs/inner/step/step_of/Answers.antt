-- `code::inner::step::step_of` meets its contract: the word's regime and tail give the pattern whose cut is the floor of what the code tells (`Stepping`),
-- and nothing wraps on the way.
use Rattle.posit.proofs.Formats.{within}
use Rattle.std.proofs.Common.{◌/◌, ◌%◌, ◌^◌, ◌<◌, ltb, arith, pow_pos}
use Rattle.code.proofs.Cutting.{few_exponents, lowest_below, word_small, turned_small, kept_small}
use Rattle.code.proofs.Stepping.{step_is, step_small}
use Rattle.code.proofs.inner.step.step_of.Goals as goal
use Rattle.code.proofs.inner.step.step_of.Goals.{After-power-unit}

pub overflow_mul-lowest : goal.overflow_mul-lowest
overflow_mul-lowest c = rw c.power.ensures (record { fits = omega (arith, few_exponents c.args.f.exponent_fits) })

pub overflow_sub-lowest : goal.overflow_sub-lowest
overflow_sub-lowest c = rw c.power.ensures (omega (arith, few_exponents c.args.f.exponent_fits))

pub overflow_sub-word : goal.overflow_sub-word
overflow_sub-word c = rw c.power.ensures (lowest_below c.args.f.exponent_fits c.requires)

pub overflow_mul-word : goal.overflow_mul-word
overflow_mul-word c = rw (c.power-2.ensures, c.power.ensures) (record { fits = word_small c.args.f.exponent_fits c.requires })

pub flipped-z-requires : goal.flipped-z-requires
flipped-z-requires c = rw (c.power-2.ensures, c.power.ensures) (omega (arith, word_small c.args.f.exponent_fits c.requires))

pub overflow_sub-z : goal.overflow_sub-z
overflow_sub-z c =
    rw (c.flipped-z.ensures, c.power-2.ensures, c.power.ensures)
    (omega (arith, turned_small c.args.f.exponent_fits c.requires))

pub power-requires-3 : goal.power-requires-3
power-requires-3 c =
    rw (c.flipped-z.ensures, c.power-2.ensures, c.power.ensures)
    (omega (arith, turned_small c.args.f.exponent_fits c.requires))

pub nonzero_div-closed : goal.nonzero_div-closed
nonzero_div-closed c = rw c.power-3.ensures (pow_pos _)

pub flipped-pattern-requires : goal.flipped-pattern-requires
flipped-pattern-requires c = rw (c.power-2.ensures, c.power.ensures) (omega (arith, word_small c.args.f.exponent_fits c.requires))

pub nonzero_rem-gap : goal.nonzero_rem-gap
nonzero_rem-gap c = rw c.power-unit.ensures (pow_pos _)

pub nonzero_div-result : goal.nonzero_div-result
nonzero_div-result c = nonzero_rem-gap c

kept : (c : After-power-unit) → c.flipped-pattern.result / c.power-unit.result < 2 ^ 15
kept c = rw c.power-unit.ensures (kept_small (within c.args.f) (omega arith))

pub overflow_cast-result : goal.overflow_cast-result
overflow_cast-result c = record { fits = omega (arith, kept c) }

pub overflow_mul-result : goal.overflow_mul-result
overflow_mul-result c = record { fits = omega (arith, kept c) }

pub overflow_add-result : goal.overflow_add-result
overflow_add-result c = record { fits = step_small (ltb 63 (c.flipped-pattern.result % c.power-unit.result)) (kept c) }

pub returns : goal.returns
returns c =
    rw (
      c.power-unit.ensures,
      c.flipped-pattern.ensures,
      c.power-3.ensures,
      c.flipped-z.ensures,
      c.power-2.ensures,
      c.power.ensures,
    )
    (step_is (within c.args.f) c.requires)
