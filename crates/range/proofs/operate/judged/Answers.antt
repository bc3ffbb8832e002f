-- `range::operate::judged` meets its contract: past the operands' own tests 0 in a divisor is refused, and else the cells give the computed answer.
use Rattle.std.proofs.Common.{refl, sym}
use Rattle.call.specs.Operation.{plus, minus, times, over}
use Rattle.call.proofs.Answered.{passes_on}
use Rattle.range.proofs.Operations.{zero_refused, operands_done, sum_answer, difference_answer, product_answer, quotient_answer}
use Rattle.word.proofs.Verdicts.{operands_refused}
use Rattle.range.proofs.operate.judged.Goals as goal

pub returns-in_err-left : goal.returns-in_err-left
returns-in_err-left c = passes_on _ _ _ c.from_residual.ensures (operands_refused _ _ _ _ _ _ c.in_err-left.ensures)

pub returns-then-has_zero : goal.returns-then-has_zero
returns-then-has_zero c = rw (c.in-Divide.is, c.at.ensures) (zero_refused c.args.f c.in_ok-left.ensures.1 (sym c.if-has_zero.ensures))

pub returns-in-Add : goal.returns-in-Add
returns-in-Add c =
    let t = c.in_ok-left.ensures.1 in
    rw c.in-Add.is (operands_done c.args.f t plus refl, sum_answer c.args.f t c.add_cells-word.ensures)

pub returns-in-Subtract : goal.returns-in-Subtract
returns-in-Subtract c =
    let t = c.in_ok-left.ensures.1 in
    rw c.in-Subtract.is (operands_done c.args.f t minus refl, difference_answer c.args.f t c.subtract_word-word.ensures)

pub returns-in-Multiply : goal.returns-in-Multiply
returns-in-Multiply c =
    let t = c.in_ok-left.ensures.1 in
    rw c.in-Multiply.is (operands_done c.args.f t times refl, product_answer c.args.f t c.multiply_cells-word.ensures)

pub returns-else-has_zero : goal.returns-else-has_zero
returns-else-has_zero c =
    let t = c.in_ok-left.ensures.1 in
    rw c.in-Divide.is (operands_done c.args.f t over (sym c.if-has_zero.ensures), quotient_answer c.args.f t c.divide_cells-word.ensures)
