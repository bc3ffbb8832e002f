-- `sheet::inner::steps::judge_step` meets its contract: its tests are those of a step, in their order.
use Rattle.std.proofs.Common.{◌≡◌, [], ◌∷◌, ◌≤◌, ◌<◌, ℕ, length, get_or, refl, sym, subst, ◌∙◌}
use borrow.Author.Tests.{lt-ltb, le-ltb}
use Rattle.call.specs.declared.operation.Operation.{Operation}
use Rattle.call.specs.Operation.{number_of, operation_test_at}
use Rattle.call.specs.Verdict.{first_hit, done, refused}
use Rattle.column.specs.Refusal.{divisor_test_at}
use Rattle.call.proofs.Answered.{passes_on}
use Rattle.call.proofs.Tests.{Passing, all_pass, one_passes, passing_both, passing_skips}
use Rattle.call.proofs.Said.{refused_hit, refused_next}
use Rattle.posit.proofs.Calls.{known}
use Rattle.sheet.specs.Refusal.{earlier_test}
use Rattle.sheet.proofs.Steps.{left_not_earlier, right_not_earlier, both_earlier}
use Rattle.sheet.proofs.inner.steps.judge_step.Goals as goal

-- ---- the tests that have passed
operation_passed : (place op : ℕ) (o : Operation) → number_of o ≡ op → Passing (operation_test_at place op ∷ [])
operation_passed place op o names = one_passes (le-ltb 3 op (subst (λ (k : ℕ). k ≤ 3) names (known o))) all_pass

module _ (k left right op : ℕ) (o : Operation) (names : number_of o ≡ op) where
  rows_passed : left < k → right < k → Passing (operation_test_at k op ∷ earlier_test k left right ∷ [])
  rows_passed h j = passing_both (operation_passed k op o names) (one_passes (both_earlier left right refl h j) all_pass)

pub returns-in-Err : goal.returns-in-Err
returns-in-Err c =
    rw (c.at.ensures, c.in-Err.ensures.0) (refused_hit all_pass (operation_test_at (length c.args.rows.now) c.args.op) _ (lt-ltb 3 _ c.in-Err.ensures.1) refl)

pub returns-then-row-left : goal.returns-then-row-left
returns-then-row-left c =
    let a = c.args in
    let k = length a.rows.now in
    rw c.at-then-row-left.ensures
    (refused_hit (operation_passed k a.op c.in-Ok.op c.in-Ok.ensures) (earlier_test k a.left a.right) _ (left_not_earlier a.left a.right refl c.if-row-left.true) refl)

pub returns-then-row-right : goal.returns-then-row-right
returns-then-row-right c =
    let a = c.args in
    let k = length a.rows.now in
    rw c.at-then-row-right.ensures
    (refused_hit (operation_passed k a.op c.in-Ok.op c.in-Ok.ensures) (earlier_test k a.left a.right) _ (right_not_earlier a.left a.right refl c.if-row-right.true) refl)

pub returns-in_err-judge_divisor : goal.returns-in_err-judge_divisor
returns-in_err-judge_divisor c =
    let a = c.args in
    let k = length a.rows.now in
    passes_on _ _ _ c.from_residual.ensures
    (refused_next (rows_passed k a.left a.right a.op c.in-Ok.op c.in-Ok.ensures c.if-row-left.false c.if-row-right.false) _
    (subst (λ (o : ℕ). first_hit (divisor_test_at a.f.n a.f.es k o (get_or a.rows.now a.right 0) ∷ []) ≡ refused c.in_err-judge_divisor.field-0.0) c.in-Ok.ensures c.in_err-judge_divisor.ensures))

pub returns : goal.returns
returns c =
    let a = c.args in
    let k = length a.rows.now in (
      passing_skips (rows_passed k a.left a.right a.op c.in-Ok.op c.in-Ok.ensures c.if-row-left.false c.if-row-right.false) _
          ∙ subst (λ (o : ℕ). first_hit (divisor_test_at a.f.n a.f.es k o (get_or a.rows.now a.right 0) ∷ []) ≡ done) c.in-Ok.ensures c.in_ok-judge_divisor.ensures.0,
      sym c.in-Ok.ensures,
    )
