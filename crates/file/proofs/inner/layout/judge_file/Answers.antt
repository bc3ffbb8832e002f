-- `file::inner::layout::judge_file` meets its contract: its tests are those of the file, in their order.
use Rattle.std.proofs.Common.{◌≡◌, ◌+◌, ◌*◌, ◌≤◌, ◌<◌, sym, ap, ◌∙◌, refl, length, take, arith}
use mathlib.Core.Bool.{not}
use lib.Dec.{eqb, ltb}
use borrow.Author.Tests.{lt-ltb, le-ltb, eq-eqb, ne_eqb}
use Rattle.posit.specs.Refusal.{format_test}
use Rattle.file.specs.File.{has_mark, version_of, width_of, exponent_size_of, input_count, step_count, file_test, count_test, length_of, file_tests}
use Rattle.call.proofs.Tests.{Passing, all_pass, one_passes, passing_both, passing_done}
use Rattle.call.proofs.Answered.{passes_on}
use Rattle.call.proofs.Said.{refused_hit}
use Rattle.posit.proofs.Formats.{within}
use Rattle.posit.proofs.Verdicts.{format_clear}
use Rattle.call.proofs.Facts.{either_true}
use Rattle.file.proofs.Marks.{mark_read}
use Rattle.file.proofs.Numbers.{two_read}
use Rattle.file.proofs.inner.layout.judge_file.Goals as goal
use Rattle.file.proofs.inner.layout.judge_file.Goals.{Else-file-lt-HEAD_BYTES, Else-from_le_bytes-ne-VERSION, Else-not-starts_with, In_ok-new, Else-steps-gt-MOST_STEPS, After-starts_with, After-from_le_bytes}

-- ---- what was read
marked : (c : After-starts_with) → c.starts_with.result ≡ has_mark c.args.file.now
marked c = c.starts_with.ensures.value ∙ mark_read c.args.file.now

version : (c : After-from_le_bytes) → c.from_le_bytes.result ≡ version_of c.args.file.now
version c = c.from_le_bytes.ensures ∙ two_read _ _

-- ---- the tests that have passed
short_passed : (c : Else-file-lt-HEAD_BYTES) → Passing (take 1 (file_tests c.args.file.now))
short_passed c = one_passes (le-ltb (length c.args.file.now) 9 c.if-file-lt-HEAD_BYTES.false) all_pass

mark_passed : (c : Else-not-starts_with) → Passing (take 2 (file_tests c.args.file.now))
mark_passed c =
    let read = marked (goal.at.Else-not-starts_with c).After-starts_with in
    passing_both (short_passed (goal.at.Else-not-starts_with c).Else-file-lt-HEAD_BYTES) (one_passes (ap not (sym read ∙ c.if-not-starts_with.false)) all_pass)

version_passed : (c : Else-from_le_bytes-ne-VERSION) → Passing (take 3 (file_tests c.args.file.now))
version_passed c =
    let read = version (goal.at.Else-from_le_bytes-ne-VERSION c).After-from_le_bytes in
    passing_both (mark_passed (goal.at.Else-from_le_bytes-ne-VERSION c).Else-not-starts_with)
    (one_passes (ap not (eq-eqb (version_of c.args.file.now) 1 (sym read ∙ c.if-from_le_bytes-ne-VERSION.false))) all_pass)

format_passed : (c : In_ok-new) → Passing (take 4 (file_tests c.args.file.now))
format_passed c =
    passing_both (version_passed (goal.at.In_ok-new c).Else-from_le_bytes-ne-VERSION)
    (rw (← c.from.ensures, ← c.from-2.ensures, c.in_ok-new.ensures.0, c.in_ok-new.ensures.1) (one_passes (format_clear (within c.in_ok-new.field-0)) all_pass))

counts_passed : (c : Else-steps-gt-MOST_STEPS) → Passing (take 5 (file_tests c.args.file.now))
counts_passed c =
    let inputs = input_count c.args.file.now in
    let steps = step_count c.args.file.now in
    let few_inputs : inputs ≤ 32 = omega (arith, c.from-inputs.ensures, c.if-inputs-gt-MOST_INPUTS.false) in
    let few_steps : steps ≤ 64 = omega (arith, c.from-steps.ensures, c.if-steps-gt-MOST_STEPS.false) in
    passing_both (format_passed (goal.at.Else-steps-gt-MOST_STEPS c).In_ok-new)
    (one_passes {t = count_test inputs steps} (rw (le-ltb 32 inputs few_inputs, le-ltb 64 steps few_steps)) all_pass)

pub returns-then-file-lt-HEAD_BYTES : goal.returns-then-file-lt-HEAD_BYTES
returns-then-file-lt-HEAD_BYTES c =
    let file = c.args.file.now in
    rw c.at.ensures (refused_hit all_pass (file_test (ltb (length file) 9)) _ (lt-ltb (length file) 9 c.if-file-lt-HEAD_BYTES.true) refl)

pub returns-then-not-starts_with : goal.returns-then-not-starts_with
returns-then-not-starts_with c =
    let file = c.args.file.now in
    let read = marked (goal.at.returns-then-not-starts_with c).After-starts_with in
    rw c.at-then-not-starts_with.ensures (refused_hit (short_passed (goal.at.returns-then-not-starts_with c).Else-file-lt-HEAD_BYTES) (file_test (not (has_mark file))) _
    (ap not (sym read ∙ c.if-not-starts_with.true)) refl)

pub returns-then-from_le_bytes-ne-VERSION : goal.returns-then-from_le_bytes-ne-VERSION
returns-then-from_le_bytes-ne-VERSION c =
    let file = c.args.file.now in
    let read = version (goal.at.returns-then-from_le_bytes-ne-VERSION c).After-from_le_bytes in
    rw c.at-then-from_le_bytes-ne-VERSION.ensures (refused_hit (mark_passed (goal.at.returns-then-from_le_bytes-ne-VERSION c).Else-not-starts_with) (file_test (not (eqb (version_of file) 1))) _
    (ap not (ne_eqb (version_of file) 1 (λ e. c.if-from_le_bytes-ne-VERSION.true (read ∙ e)))) refl)

pub returns-in_err-new : goal.returns-in_err-new
returns-in_err-new c =
    let file = c.args.file.now in
    passes_on _ _ _ c.from_residual.ensures
    (rw c.in_err-new.ensures.0
    (refused_hit (version_passed (goal.at.returns-in_err-new c).Else-from_le_bytes-ne-VERSION) (format_test (width_of file) (exponent_size_of file)) _
    (ap not (rw (c.from.ensures, c.from-2.ensures) at c.in_err-new.ensures.1)) refl))

pub returns-then-inputs-gt-MOST_INPUTS : goal.returns-then-inputs-gt-MOST_INPUTS
returns-then-inputs-gt-MOST_INPUTS c =
    let inputs = input_count c.args.file.now in
    let many : 32 < inputs = omega (arith, c.from-inputs.ensures, c.if-inputs-gt-MOST_INPUTS.true) in
    rw c.at-then-inputs-gt-MOST_INPUTS.ensures (refused_hit (format_passed (goal.at.returns-then-inputs-gt-MOST_INPUTS c).In_ok-new) (count_test inputs (step_count c.args.file.now)) _
    (rw (lt-ltb 32 inputs many)) refl)

pub returns-then-steps-gt-MOST_STEPS : goal.returns-then-steps-gt-MOST_STEPS
returns-then-steps-gt-MOST_STEPS c =
    let inputs = input_count c.args.file.now in
    let steps = step_count c.args.file.now in
    let many : 64 < steps = omega (arith, c.from-steps.ensures, c.if-steps-gt-MOST_STEPS.true) in
    rw c.at-then-steps-gt-MOST_STEPS.ensures (refused_hit (format_passed (goal.at.returns-then-steps-gt-MOST_STEPS c).In_ok-new) (count_test inputs steps) _
    (either_true (ltb 32 inputs) _ (lt-ltb 64 steps many)) refl)

-- what the counts ask for, as it was read
asked : (c : Else-steps-gt-MOST_STEPS) → 9 + 8 * c.from-inputs.result + 3 * c.from-steps.result ≡ length_of (input_count c.args.file.now) (step_count c.args.file.now)
asked c = omega (arith, c.from-inputs.ensures, c.from-steps.ensures)

pub returns-then-file-inputs : goal.returns-then-file-inputs
returns-then-file-inputs c =
    let file = c.args.file.now in
    let e = (goal.at.returns-then-file-inputs c).Else-steps-gt-MOST_STEPS in
    let whole = length_of (input_count file) (step_count file) in
    rw c.at-then-file-inputs.ensures (refused_hit (counts_passed e) (file_test (not (eqb (length file) whole))) _
    (ap not (ne_eqb (length file) whole (λ h. c.if-file-inputs.true (h ∙ sym (asked e))))) refl)

pub returns : goal.returns
returns c =
    let file = c.args.file.now in
    let e = (goal.at.returns c).Else-steps-gt-MOST_STEPS in
    let whole = length_of (input_count file) (step_count file) in
    (passing_done (passing_both (counts_passed e) (one_passes {t = file_test (not (eqb (length file) whole))} (ap not (eq-eqb (length file) whole (c.if-file-inputs.false ∙ asked e))) all_pass)), tt)
