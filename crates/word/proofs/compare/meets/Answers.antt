-- `word::compare::meets` meets its contract: the format and both words are judged first, and then the cells decide.
use Rattle.call.proofs.Answered.{passes_on}
use Rattle.word.specs.Member.{Meets}
use Rattle.word.proofs.Verdicts.{ranges_outside, words_real, comparison_refused, comparison_done}
use Rattle.word.proofs.compare.meets.Goals as goal

pub returns-in_err-f : goal.returns-in_err-f
returns-in_err-f c = passes_on _ _ _ c.from_residual.ensures (rw c.in_err-f.ensures.0 (ranges_outside _ _ _ _ c.in_err-f.ensures.1))

pub returns-in_err-judge_words : goal.returns-in_err-judge_words
returns-in_err-judge_words c =
    passes_on _ _ _ c.from_residual-in_err-judge_words.ensures (comparison_refused Meets _ _ c.in_ok-f.f c.in_ok-f.ensures _ c.in_err-judge_words.ensures)

pub cells_meet-requires : goal.cells_meet-requires
cells_meet-requires c =
    let real = words_real c.in_ok-f.f.n c.args.a c.args.b c.in_ok-judge_words.ensures.0 in
    (c.in_ok-f.f.wide_enough, c.in_ok-f.f.not_too_wide, real.0, real.1)

pub returns : goal.returns
returns c = comparison_done Meets _ _ c.in_ok-f.f c.in_ok-f.ensures c.in_ok-judge_words.ensures.0 c.cells_meet.ensures
