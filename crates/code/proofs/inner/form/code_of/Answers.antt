-- `code::inner::form::code_of` meets its contract: the pattern or its distance from NaR's is a whole number of few digits, so the double is exact, and its
-- bits give regime and tail (`Form`).
use Rattle.posit.proofs.Formats.{within}
use Rattle.std.proofs.Common.{arith}
use Rattle.code.proofs.Form.{bit_small, twice_small, turned_small, machine_fits, folds}
use Rattle.code.proofs.inner.form.code_of.Goals as goal

pub overflow_mul-folded : goal.overflow_mul-folded
overflow_mul-folded c =
    record { fits = omega (arith, twice_small (within c.args.f) c.requires.0 c.requires.1) }

pub overflow_cast-folded : goal.overflow_cast-folded
overflow_cast-folded c =
    rw c.power32-ones.ensures (record { sfits = turned_small (within c.args.f) c.requires.0 c.requires.1 })

pub overflow_cast-folded-2 : goal.overflow_cast-folded-2
overflow_cast-folded-2 c =
    rw c.power32-ones.ensures (record { sfits = bit_small (within c.args.f) c.requires.0 c.requires.1 })

pub overflow_sub-folded : goal.overflow_sub-folded
overflow_sub-folded c =
    rw c.power32-ones.ensures (machine_fits (within c.args.f) c.requires.0 c.requires.1)

pub float_to_bits-bits : goal.float_to_bits-bits
float_to_bits-bits c =
    rw c.power32-ones.ensures (folds (within c.args.f) c.requires.0 c.requires.1).number

pub returns-then-folded-lt0 : goal.returns-then-folded-lt0
returns-then-folded-lt0 c =
    rw (c.ones_from.ensures, c.power32-ones.ensures)
    ((folds (within c.args.f) c.requires.0 c.requires.1).below (rw c.power32-ones.ensures at c.if-folded-lt0.true))

pub returns : goal.returns
returns c =
    rw (c.zeros_from.ensures, c.power32-ones.ensures)
    ((folds (within c.args.f) c.requires.0 c.requires.1).above (rw c.power32-ones.ensures at c.if-folded-lt0.false))
