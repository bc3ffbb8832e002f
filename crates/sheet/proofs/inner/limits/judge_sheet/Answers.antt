-- `sheet::inner::limits::judge_sheet` meets its contract: its tests are those of the verdict, in their order.
use Rattle.std.proofs.Common.{ap, not, [], refl, ◌+◌, ◌/◌, arith}
use borrow.Author.Tests.{lt-ltb, le-ltb}
use Rattle.posit.specs.Refusal.{format_test}
use Rattle.sheet.specs.Refusal.{size_test}
use Rattle.call.specs.Written.{room_test}
use Rattle.call.proofs.Answered.{passes_on}
use Rattle.call.proofs.Tests.{all_pass, one_passes, passing_both, passing_done}
use Rattle.call.proofs.Said.{refused_hit}
use Rattle.sheet.proofs.Limits.{inputs_hit, steps_hit, bytes_hit, format_passed, size_passed}
use Rattle.sheet.proofs.inner.limits.judge_sheet.Goals as goal

pub returns-in_err-f : goal.returns-in_err-f
returns-in_err-f c =
    passes_on _ _ _ c.from_residual.ensures
    (rw c.in_err-f.ensures.0 (refused_hit all_pass (format_test c.args.n c.args.es) _ (ap not c.in_err-f.ensures.1) refl))

pub returns-then-inputs-gt-MOST_INPUTS : goal.returns-then-inputs-gt-MOST_INPUTS
returns-then-inputs-gt-MOST_INPUTS c =
    let a = c.args in
    rw c.at.ensures
    (refused_hit (format_passed c.in_ok-f.f c.in_ok-f.ensures) (size_test a.inputs a.bytes) _ (inputs_hit a.inputs a.bytes c.if-inputs-gt-MOST_INPUTS.true) refl)

pub returns-then-bytes-gt-MOST_STEPS : goal.returns-then-bytes-gt-MOST_STEPS
returns-then-bytes-gt-MOST_STEPS c =
    let a = c.args in
    rw c.at-then-bytes-gt-MOST_STEPS.ensures
    (refused_hit (format_passed c.in_ok-f.f c.in_ok-f.ensures) (size_test a.inputs a.bytes) _ (steps_hit a.inputs a.bytes c.if-bytes-gt-MOST_STEPS.true) refl)

pub returns-then-bytes-ne0 : goal.returns-then-bytes-ne0
returns-then-bytes-ne0 c =
    let a = c.args in
    rw c.at-then-bytes-ne0.ensures
    (refused_hit (format_passed c.in_ok-f.f c.in_ok-f.ensures) (size_test a.inputs a.bytes) _ (bytes_hit a.inputs a.bytes c.if-bytes-ne0.true) refl)

pub returns-then-lent-inputs : goal.returns-then-lent-inputs
returns-then-lent-inputs c =
    let a = c.args in
    let sizes = size_passed c.in_ok-f.f c.in_ok-f.ensures a.inputs a.bytes c.if-inputs-gt-MOST_INPUTS.false c.if-bytes-gt-MOST_STEPS.false c.if-bytes-ne0.false in
    rw c.at-then-lent-inputs.ensures (refused_hit sizes (room_test 0 (a.inputs + a.bytes / 3) a.lent) [] (lt-ltb a.lent _ (omega arith)) refl)

pub returns : goal.returns
returns c =
    let a = c.args in
    let sizes = size_passed c.in_ok-f.f c.in_ok-f.ensures a.inputs a.bytes c.if-inputs-gt-MOST_INPUTS.false c.if-bytes-gt-MOST_STEPS.false c.if-bytes-ne0.false in
    (passing_done (passing_both sizes (one_passes {t = room_test 0 (a.inputs + a.bytes / 3) a.lent} (le-ltb a.lent _ (omega arith)) all_pass)), c.in_ok-f.ensures)
