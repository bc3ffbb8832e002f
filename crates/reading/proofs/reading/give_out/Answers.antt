-- `reading::reading::give_out` meets its contract: the format and the word are judged first, and a real one goes out.
use Rattle.std.proofs.Common.{◌∙◌}
use Rattle.call.proofs.Answered.{passes_on, accepts}
use Rattle.posit.proofs.Formats.{within}
use Rattle.word.proofs.Verdicts.{range_outside, range_judged, word_real}
use Rattle.reading.proofs.reading.give_out.Goals as goal

pub returns-in_err-f : goal.returns-in_err-f
returns-in_err-f c = passes_on _ _ _ c.from_residual.ensures (rw c.in_err-f.ensures.0 (range_outside _ _ _ c.in_err-f.ensures.1))

pub returns-in_err-judge_word : goal.returns-in_err-judge_word
returns-in_err-judge_word c =
    passes_on _ _ _ c.from_residual-in_err-judge_word.ensures
    (rw (c.in_ok-f.ensures.0, c.in_ok-f.ensures.1) (range_judged (within c.in_ok-f.f) c.args.a ∙ c.in_err-judge_word.ensures))

pub range_out-requires : goal.range_out-requires
range_out-requires c = word_real c.in_ok-f.f.n 0 c.args.a (accepts c.in_ok-judge_word.ensures.0)

pub returns : goal.returns
returns c =
    rw (c.in_ok-f.ensures.0, c.in_ok-f.ensures.1)
    (range_judged (within c.in_ok-f.f) c.args.a ∙ c.in_ok-judge_word.ensures.0, c.range_out.ensures)
