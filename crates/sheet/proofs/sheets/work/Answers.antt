-- `sheet::sheets::work` meets its contract: limits, inputs and steps are judged in the order of the tests, and the rows are written at the end.
use Rattle.std.proofs.Common.{◌≡◌, List, ◌++◌, ℕ, ◌≤◌, Ok, Err, Result, sym, ap, ◌∙◌, length, drop, arith}
use native.Mathlib.Nat.{zero-add}
use lib.Seq.{length-take-le}
use Rattle.std.specs.Result.{IsOk, OnOk}
use Rattle.call.specs.Verdict.{first_hit}
use Rattle.call.proofs.Answered.{passes_on, accepts}
use Rattle.call.proofs.Said.{refused_first, refused_next}
use Rattle.call.proofs.Tests.{Passing, passing_of, passing_both, passing_done}
use Rattle.call.proofs.Written.{later_refused, later_done}
use Rattle.sheet.specs.Accepted.{SheetFits}
use Rattle.sheet.specs.Sheet.{steps_of, rows_of, sheet_limits, inputs_tests, steps_tests, verdict_of_sheet}
use Rattle.sheet.proofs.Limits.{sheet_refusing, sheet_fits}
use Rattle.sheet.proofs.Steps.{inputs_refusing, inputs_real, steps_refusing}
use Rattle.sheet.proofs.Rows.{length_rows, length_steps}
use Rattle.sheet.proofs.sheets.work.Goals as goal
use Rattle.sheet.proofs.sheets.work.Goals.{In_ok-f, In_ok-judge_inputs, After-try_extend_from_slice, In_ok-work_steps, After-len-count}

-- ---- the tests that have passed
limits_passed : (c : In_ok-f) → Passing (sheet_limits c.args.n c.args.es (length c.args.inputs.now) (length c.args.steps.now) (length c.args.lent.now))
limits_passed c =
    let a = c.args in
    passing_of (sheet_refusing a.n a.es (length a.inputs.now) (length a.steps.now) (length a.lent.now)) (accepts c.in_ok-f.ensures.0)

fit : (c : In_ok-f) → SheetFits c.args.n c.args.es (length c.args.inputs.now) (length c.args.steps.now) (length c.args.lent.now)
fit c = sheet_fits (limits_passed c)

inputs_passed : (c : In_ok-judge_inputs) → Passing (inputs_tests c.args.n 0 c.args.inputs.now)
inputs_passed c =
    let a = c.args in
    passing_of (inputs_refusing a.n 0 a.inputs.now) (rw c.in_ok-f.ensures.1.0 (accepts c.in_ok-judge_inputs.ensures.0))

pub returns-in_err-f : goal.returns-in_err-f
unfolding verdict_of_sheet
returns-in_err-f c =
    let a = c.args in
    let v = refused_first (sheet_limits a.n a.es (length a.inputs.now) (length a.steps.now) (length a.lent.now)) _ _ c.in_err-f.ensures in
    record { count = passes_on _ _ _ c.from_residual.ensures v; later = later_refused _ 0 _ a.lent.now v }

pub judge_inputs-requires : goal.judge_inputs-requires
judge_inputs-requires c = (c.in_ok-f.f.wide_enough, c.in_ok-f.f.not_too_wide, (fit (goal.at.judge_inputs-requires c).In_ok-f).few_inputs)

pub returns-in_err-judge_inputs : goal.returns-in_err-judge_inputs
unfolding verdict_of_sheet
returns-in_err-judge_inputs c =
    let a = c.args in
    let v = refused_next (limits_passed (goal.at.returns-in_err-judge_inputs c).In_ok-f) _
    (refused_first (inputs_tests a.n 0 a.inputs.now) (steps_tests a.n a.es a.inputs.now (steps_of a.steps.now)) _ (rw c.in_ok-f.ensures.1.0 c.in_err-judge_inputs.ensures)) in
    record { count = passes_on _ _ _ c.from_residual-in_err-judge_inputs.ensures v; later = later_refused _ 0 _ a.lent.now v }

-- ---- the first rows are the inputs
have_room : (c : After-try_extend_from_slice) → IsOk c.try_extend_from_slice.result
have_room c =
    let f = fit (goal.at.After-try_extend_from_slice c).In_ok-f in
    c.try_extend_from_slice.ensures.variant.1 (rw c.new-rows.ensures (omega (arith, f.few_inputs)))

first_rows : (c : After-try_extend_from_slice) → c.try_extend_from_slice.new.self.items ≡ c.args.inputs.now
first_rows c = at_ok c.try_extend_from_slice.result (have_room c) c.try_extend_from_slice.ensures.ok ∙ ap (λ (l : List ℕ). l ++ c.args.inputs.now) c.new-rows.ensures
  where
    at_ok : {T E P : Type 0} (r : Result T E) → IsOk r → OnOk r P → P
    at_ok (Ok x) k h = h
    at_ok (Err e) k h = cc

pub unwrap-requires : goal.unwrap-requires
unwrap-requires c = have_room c

pub work_steps-requires : goal.work_steps-requires
work_steps-requires c =
    let a = c.args in
    let t = goal.at.work_steps-requires c in
    let f = fit t.In_ok-f in
    rw (first_rows t.After-try_extend_from_slice, ← c.in_ok-f.ensures.1.0) (f.few_inputs, f.few_steps, f.whole_steps, inputs_real a.n 0 a.inputs.now (inputs_passed t.In_ok-judge_inputs))

-- ---- the steps' verdict, and all rows where it is done
pub returns-in_err-work_steps : goal.returns-in_err-work_steps
unfolding verdict_of_sheet
returns-in_err-work_steps c =
    let a = c.args in
    let t = goal.at.returns-in_err-work_steps c in
    let is = c.in_ok-f.ensures.1 in
    let v = refused_next (limits_passed t.In_ok-f) _
    (refused_next (inputs_passed t.In_ok-judge_inputs) (steps_tests a.n a.es a.inputs.now (steps_of a.steps.now))
    (rw (is.0, is.1) (rw (first_rows t.After-try_extend_from_slice) at c.in_err-work_steps.ensures))) in
    record { count = passes_on _ _ _ c.from_residual-in_err-work_steps.ensures v; later = later_refused _ 0 _ a.lent.now v }

rows_are : (c : In_ok-work_steps) → c.work_steps.new.rows.items ≡ rows_of c.args.n c.args.es c.args.inputs.now (steps_of c.args.steps.now)
rows_are c =
    let is = c.in_ok-f.ensures.1 in
    rw (is.0, is.1) (rw (first_rows (goal.at.In_ok-work_steps c).After-try_extend_from_slice) at c.in_ok-work_steps.ensures.1)

-- ---- they have room in the lent column
room : (c : After-len-count) → c.len-count.result ≤ length c.args.lent.now
room c =
    let a = c.args in
    let f = fit (goal.at.After-len-count c).In_ok-f in
    omega (arith, c.len-count.ensures.value, ap length (rows_are (goal.at.After-len-count c).In_ok-work_steps), length_rows a.n a.es a.inputs.now (steps_of a.steps.now), length_steps a.steps.now, f.room)

pub slice_bounds-copy_from_slice-end : goal.slice_bounds-copy_from_slice-end
slice_bounds-copy_from_slice-end c = room (goal.at.slice_bounds-copy_from_slice-end c).After-len-count

pub slice_bounds-copy_from_slice-end-2 : goal.slice_bounds-copy_from_slice-end-2
slice_bounds-copy_from_slice-end-2 c = sym (length-take-le _ _ (room (goal.at.slice_bounds-copy_from_slice-end-2 c).After-len-count))

pub copy_from_slice-requires : goal.copy_from_slice-requires
copy_from_slice-requires c =
    length-take-le _ _ (room (goal.at.copy_from_slice-requires c).After-len-count) ∙ c.len-count.ensures.value ∙ sym (ap length c.deref.ensures.0)

pub returns : goal.returns
unfolding verdict_of_sheet
returns c =
    let a = c.args in
    let t = goal.at.returns c in
    let is = c.in_ok-f.ensures.1 in
    let words = rows_of a.n a.es a.inputs.now (steps_of a.steps.now) in
    let rows = rows_are t.In_ok-work_steps in
    let count : c.len-count.result ≡ length words = c.len-count.ensures.value ∙ ap length rows in
    let steps : (first_hit (steps_tests a.n a.es a.inputs.now (steps_of a.steps.now))).number ≡ 0
    = rw (is.0, is.1) (rw (first_rows t.After-try_extend_from_slice) at (accepts c.in_ok-work_steps.ensures.0)) in
    let v = passing_done
    (passing_both (limits_passed t.In_ok-f)
    (passing_both (inputs_passed t.In_ok-judge_inputs)
    (passing_of (steps_refusing a.n a.es a.inputs.now (steps_of a.steps.now)) steps))) in
    record {
      count = (v, count);
      later =
          later_done 0 words a.lent.now v
          (ap (λ (l : List ℕ). l ++ drop c.len-count.result a.lent.now) (c.copy_from_slice.ensures.after ∙ c.deref.ensures.0 ∙ rows)
          ∙ ap (λ (k : ℕ). words ++ drop k a.lent.now) (count ∙ sym (zero-add (length words))));
    }
