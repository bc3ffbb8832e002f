-- `column::inner::pairs::judge_pair` meets its contract: it judges the left word, the right word and the divisor in the order of the tests.
use Rattle.std.proofs.Common.{◌∙◌, sym, subst, [], arith}
use Rattle.call.specs.Verdict.{Verdict, Says}
use Rattle.call.proofs.Answered.{passes_on, accepts}
use Rattle.call.proofs.FirstHit.{passes, none_hits}
use Rattle.call.proofs.Said.{refused_first, refused_next}
use Rattle.call.proofs.Tests.{passing_skips}
use Rattle.word.specs.Refusal.{word_tests}
use Rattle.column.specs.Refusal.{divisor_test_at}
use Rattle.column.proofs.Pairs.{divisor_clears}
use Rattle.word.proofs.Verdicts.{word_real}
use Rattle.word.proofs.WordTests.{word_verdict, word_passing}
use Rattle.column.proofs.inner.pairs.judge_pair.Goals as goal

pub returns-in_err-judge_word : goal.returns-in_err-judge_word
returns-in_err-judge_word c =
    let a = c.args in
    passes_on _ _ _ c.from_residual.ensures (refused_first (word_tests a.f.n a.place a.a) _ _ (word_verdict a.f.n a.place a.a c.in_err-judge_word.ensures))

pub returns-in_err-judge_word-2 : goal.returns-in_err-judge_word-2
returns-in_err-judge_word-2 c =
    let a = c.args in
    passes_on _ _ _ c.from_residual-in_err-judge_word-2.ensures
    (refused_next (word_passing a.f.n a.place a.a c.in_ok-judge_word.ensures.0) _
    (refused_first (word_tests a.f.n a.place a.b) _ _ (word_verdict a.f.n a.place a.b c.in_err-judge_word-2.ensures)))

pub judge_divisor-requires : goal.judge_divisor-requires
judge_divisor-requires c = word_real c.args.f.n c.args.place c.args.b (accepts c.in_ok-judge_word-2.ensures.0)

pub returns-in-Ok : goal.returns-in-Ok
returns-in-Ok c =
    let a = c.args in
    subst (λ (v : Verdict). Says v c.judge_divisor.result)
    (sym (passing_skips (word_passing a.f.n a.place a.a c.in_ok-judge_word.ensures.0) _ ∙ passing_skips (word_passing a.f.n a.place a.b c.in_ok-judge_word-2.ensures.0) _))
    (rw c.in-Ok.ensures at c.judge_divisor.ensures)

pub returns-in-Err : goal.returns-in-Err
returns-in-Err c =
    let a = c.args in (
      passing_skips (word_passing a.f.n a.place a.a c.in_ok-judge_word.ensures.0) _
          ∙ passing_skips (word_passing a.f.n a.place a.b c.in_ok-judge_word-2.ensures.0) _
          ∙ passes (divisor_test_at a.f.n a.f.es a.place a.op a.b) [] (divisor_clears a.f.n a.f.es a.place a.op a.b (λ e. absurd (omega (arith, e, c.in-Err.ensures.1))))
          ∙ none_hits,
      tt,
    )
