-- `sheet::inner::steps::judge_inputs` meets its contract: while no input is refused, the verdict of all inputs is that of the inputs left.
use Rattle.std.proofs.Common.{◌≡◌, drop}
use Rattle.call.specs.Verdict.{first_hit}
use Rattle.sheet.specs.Sheet.{inputs_tests}
use Rattle.sheet.proofs.inner.steps.judge_inputs.Given as goal

abbrev pub invariant-loop-i : goal.invariant-loop-i
invariant-loop-i l = first_hit (inputs_tests l.n 0 l.inputs) ≡ first_hit (inputs_tests l.n l.i (drop l.i l.inputs))
