-- `word::inner::judge::judge_words` meets its contract: the left word's refusal stays, and past it the right one's verdict is left.
use Rattle.std.proofs.Common.{sym, subst}
use Rattle.call.specs.Verdict.{Verdict, Says}
use Rattle.call.proofs.Answered.{passes_on, accepts}
use Rattle.word.proofs.Verdicts.{words_by_left, words_by_right, word_real}
use Rattle.word.proofs.inner.judge.judge_words.Goals as goal

pub returns-in_err-judge_word : goal.returns-in_err-judge_word
returns-in_err-judge_word c = passes_on _ _ _ c.from_residual.ensures (words_by_left _ _ _ _ c.in_err-judge_word.ensures)

pub returns : goal.returns
returns c =
    subst (λ (v : Verdict). Says v c.judge_word-2.result)
    (sym (words_by_right _ _ _ (word_real c.args.f.n 0 c.args.a (accepts c.in_ok-judge_word.ensures.0))))
    c.judge_word-2.ensures
