-- `cell::inner::add::add_cells` meets its contract: the outermost cells of all sums, and no cell where an operand has none (`SumRange`).
use Rattle.posit.proofs.Formats.{within}
use native.Mathlib.Omega.{arith}
use Rattle.cell.proofs.SumRange.{one_fits, no_left, no_right, sums_there, sum_word}
use Rattle.cell.proofs.inner.add.add_cells.Goals as goal

pub joined-requires : goal.joined-requires
joined-requires c = (one_fits (within c.args.f), one_fits (within c.args.f))

pub returns-then-x : goal.returns-then-x
returns-then-x c = no_left _ _ c.args.f.wide_enough c.args.x c.args.y c.if-x.true c.joined.ensures

pub joined-requires-then-y : goal.joined-requires-then-y
joined-requires-then-y c = (one_fits (within c.args.f), one_fits (within c.args.f))

pub returns-then-y : goal.returns-then-y
returns-then-y c = no_right _ _ c.args.f.wide_enough c.args.x c.args.y c.if-y.true c.joined-then-y.ensures

pub sum_start-requires : goal.sum_start-requires
sum_start-requires c = (omega (arith, c.requires), omega (arith, c.requires))

pub sum_end-requires : goal.sum_end-requires
sum_end-requires c = (omega (arith, c.requires), omega (arith, c.requires))

pub word_of-requires : goal.word_of-requires
word_of-requires c = sums_there _ _ c.args.f.wide_enough c.args.x c.args.y c.sum_start.ensures c.sum_end.ensures

pub returns : goal.returns
returns c =
    sum_word _ _ c.args.f.wide_enough c.args.x c.args.y c.sum_start.ensures c.sum_end.ensures
    c.if-x.false c.if-y.false c.word_of.ensures
