-- `sheet::inner::steps::judge_inputs` meets its contract: while no input is refused, the verdict of all inputs is that of the inputs left.
use Rattle.std.proofs.Common.{◌≡◌, ◌+◌, ◌++◌, ap, ◌∙◌, get_or, drop}
use Rattle.call.specs.Verdict.{first_hit}
use Rattle.call.proofs.FirstHit.{none_hits}
use Rattle.word.specs.Refusal.{word_tests}
use Rattle.sheet.specs.Sheet.{inputs_tests}
use Rattle.call.proofs.Tests.{passing_skips}
use Rattle.call.proofs.Answered.{passes_on}
use Rattle.call.proofs.Said.{refused_first}
use Rattle.word.proofs.WordTests.{word_verdict, word_passing}
use Rattle.sheet.proofs.Steps.{inputs_next, inputs_end}
use Rattle.sheet.proofs.inner.steps.judge_inputs.Goals as goal
use Rattle.sheet.proofs.inner.steps.judge_inputs.Goals.{In-loop-i}

-- the verdict of all inputs is that of the next input and those behind it
next_input : (c : In-loop-i) → let a = c.args in let i = c.loop-i.i in
    first_hit (inputs_tests a.n 0 a.inputs.now) ≡ first_hit (word_tests a.n i (get_or a.inputs.now i 0) ++ inputs_tests a.n (i + 1) (drop (i + 1) a.inputs.now))
next_input c = c.loop-i.invariant ∙ ap first_hit (inputs_next c.args.n c.loop-i.i c.args.inputs.now c.loop-i-test.true)

pub returns-in_err-judge_word : goal.returns-in_err-judge_word
returns-in_err-judge_word c =
    let t = (goal.at.returns-in_err-judge_word c).In-loop-i in
    let n = t.args.n in
    let i = t.loop-i.i in
    let w = get_or t.args.inputs.now i 0 in
    passes_on _ _ _ c.from_residual.ensures (next_input t ∙ refused_first (word_tests n i w) _ _ (word_verdict n i w c.in_err-judge_word.ensures))

pub loop-i-preserved : goal.loop-i-preserved
loop-i-preserved c =
    let t = (goal.at.loop-i-preserved c).In-loop-i in
    next_input t ∙ passing_skips (word_passing t.args.n t.loop-i.i (get_or t.args.inputs.now t.loop-i.i 0) c.in_ok-judge_word.ensures.0) _

pub returns : goal.returns
returns c = (c.loop-i.invariant ∙ ap first_hit (inputs_end c.args.n c.loop-i.i c.args.inputs.now c.loop-i-test.false) ∙ none_hits, tt)
