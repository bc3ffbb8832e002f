-- `sheet::inner::steps::work_steps` meets its contract: while no step is refused, the rows so far and the steps left come to what all steps come to.
use Rattle.posit.proofs.Formats.{within}
use Rattle.std.proofs.Common.{◌≡◌, ℕ, List, [], ◌∷◌, ◌++◌, ◌+◌, ◌*◌, ◌/◌, ◌<◌, sym, ap, ◌∙◌, subst, length, get_or, drop, arith}
use Rattle.call.specs.Verdict.{Verdict, first_hit, done}
use Rattle.call.proofs.Answered.{passes_on, accepts}
use Rattle.sheet.specs.Accepted.{StepFits}
use Rattle.sheet.specs.Sheet.{Step, steps_of, step_tests, with_row}
use Rattle.call.proofs.Tests.{Passing, passing_of}
use Rattle.sheet.proofs.Steps.{Working, working_none, working_one, working_refused, working_all, step_of, steps_next, steps_end, step_refusing, step_fits}
use Rattle.sheet.proofs.inner.steps.work_steps.Goals as goal
use Rattle.sheet.proofs.inner.steps.work_steps.Goals.{After-from-right}

-- ---- in a turn: the next step
abbrev step : After-from-right → Step
step c = record { operation = get_or (get_or c.as_chunks.result.0.now c.loop-op.op-index []) 0 0; left = c.from-left.result; right = c.from-right.result }

next : (c : After-from-right) → let a = c.args in
    Working a.f.n a.f.es a.rows.now.items (steps_of a.steps.now) c.loop-op.rows.items (step c ∷ steps_of (drop (3 * (c.loop-op.op-index + 1)) a.steps.now))
next c =
    let a = c.args in
    let k = c.loop-op.op-index in
    let left = steps_of (drop (3 * (k + 1)) a.steps.now) in
    let here : k < length a.steps.now / 3 = omega (arith, c.as_chunks.ensures.front_len, c.loop-op-test.true) in
    let read : step_of (get_or c.as_chunks.result.0.now k []) ≡ step c = rw (c.from-left.ensures, c.from-right.ensures) in
    let is : steps_of (drop (3 * k) a.steps.now) ≡ step c ∷ left =
    steps_next k a.steps.now here
    ∙ ap (λ (triples : List (List ℕ)). step_of (get_or triples k []) ∷ left) (sym c.as_chunks.ensures.front)
    ∙ ap (λ (s : Step). s ∷ left) read
    in
    subst (λ (l : List Step). Working a.f.n a.f.es a.rows.now.items (steps_of a.steps.now) c.loop-op.rows.items l) is c.loop-op.invariant.1

-- ---- the step judged, over the rows themselves
module _ (c : After-from-right) {rows : List ℕ} (e : rows ≡ c.loop-op.rows.items) where
  over_rows : {v : Verdict} → first_hit (step_tests c.args.f.n c.args.f.es rows (step c)) ≡ v → first_hit (step_tests c.args.f.n c.args.f.es c.loop-op.rows.items (step c)) ≡ v
  over_rows {v} h = subst (λ (r : List ℕ). first_hit (step_tests c.args.f.n c.args.f.es r (step c)) ≡ v) e h

  passed : first_hit (step_tests c.args.f.n c.args.f.es rows (step c)) ≡ done → Passing (step_tests c.args.f.n c.args.f.es c.loop-op.rows.items (step c))
  passed h = passing_of (step_refusing c.args.f.n c.args.f.es c.loop-op.rows.items (step c)) (accepts (over_rows h))

  fit : first_hit (step_tests c.args.f.n c.args.f.es rows (step c)) ≡ done → StepFits c.args.f.n c.args.f.es c.loop-op.rows.items (step c)
  fit h = step_fits (passed h)

pub judge_step-requires : goal.judge_step-requires
judge_step-requires c =
    let w = c.loop-op.invariant.1 in
    rw c.deref.ensures.0 (omega (arith, c.deref.ensures.1, ap length c.deref.ensures.0), w.real)

pub loop-op-init : goal.loop-op-init
loop-op-init c = (omega arith, working_none c.requires.3)

pub returns-in_err-op : goal.returns-in_err-op
returns-in_err-op c =
    let t = (goal.at.returns-in_err-op c).After-from-right in
    passes_on _ _ _ c.from_residual.ensures (working_refused _ (next t) (over_rows t c.deref.ensures.0 c.in_err-op.ensures))

pub bounds-deref-left : goal.bounds-deref-left
bounds-deref-left c = rw c.deref-in-loop-op.ensures.0 (fit (goal.at.bounds-deref-left c).After-from-right c.deref.ensures.0 c.in_ok-op.ensures.0).left_earlier

pub bounds-deref-right : goal.bounds-deref-right
bounds-deref-right c = rw c.deref-in-loop-op-2.ensures.0 (fit (goal.at.bounds-deref-right c).After-from-right c.deref.ensures.0 c.in_ok-op.ensures.0).right_earlier

pub operate_words-word-requires : goal.operate_words-word-requires
operate_words-word-requires c =
    let f = fit (goal.at.operate_words-word-requires c).After-from-right c.deref.ensures.0 c.in_ok-op.ensures.0 in
    let real = c.loop-op.invariant.1.real in
    rw (c.deref-in-loop-op.ensures.0, c.deref-in-loop-op-2.ensures.0) (real _ f.left_earlier, real _ f.right_earlier)

pub loop-op-preserved : goal.loop-op-preserved
loop-op-preserved c =
    let a = c.args in
    let t = (goal.at.loop-op-preserved c).After-from-right in
    let rest = steps_of (drop (3 * (c.loop-op.op-index + 1)) a.steps.now) in
    let worked : c.push.new.self.items ≡ with_row a.f.n a.f.es c.loop-op.rows.items (step t) =
    c.push.ensures.items
    ∙ ap (λ (w : ℕ). c.loop-op.rows.items ++ w ∷ []) (rw (c.deref-in-loop-op.ensures.0, c.deref-in-loop-op-2.ensures.0, ← c.in_ok-op.ensures.1) at c.operate_words-word.ensures)
    in (
      omega (arith, c.push.ensures.len),
      subst (λ (l : List ℕ). Working a.f.n a.f.es a.rows.now.items (steps_of a.steps.now) l rest) (sym worked)
          (working_one {rows = c.loop-op.rows.items} {s = step t} (within a.f) (next t) (passed t c.deref.ensures.0 c.in_ok-op.ensures.0)),
    )

pub returns : goal.returns
returns c =
    let a = c.args in
    let l = c.loop-op in
    let end = steps_end (3 * l.op-index) a.steps.now (omega (arith, c.as_chunks.ensures.front_len, c.loop-op-test.false)) in
    let all = working_all (subst (λ (left : List Step). Working a.f.n a.f.es a.rows.now.items (steps_of a.steps.now) l.rows.items left) end l.invariant.1) in
    (all.0, sym all.1)
