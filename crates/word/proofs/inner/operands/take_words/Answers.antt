-- `word::inner::operands::take_words` meets its contract: the left word is taken apart first, and then the right one.
use Rattle.std.proofs.Common.{◌∙◌}
use Rattle.call.proofs.Answered.{passes_on}
use Rattle.word.proofs.Verdicts.{words_by_left, words_by_right, words_done}
use Rattle.word.proofs.inner.operands.take_words.Goals as goal

pub returns-in_err-left : goal.returns-in_err-left
returns-in_err-left c = passes_on _ _ _ c.from_residual.ensures (words_by_left _ _ _ _ (c.in_err-left.ensures 0))

pub returns-in-Ok : goal.returns-in-Ok
returns-in-Ok c =
    let left = c.in_ok-left.ensures in
    let right = c.in-Ok.ensures in
    (words_done _ _ _ left.0 right.0, record { left_real = left.0; right_real = right.0; left = left.1; right = right.1 })

pub returns-in-Err : goal.returns-in-Err
returns-in-Err c = rw c.at.ensures (words_by_right _ _ _ c.in_ok-left.ensures.0 ∙ c.in-Err.ensures 1)
