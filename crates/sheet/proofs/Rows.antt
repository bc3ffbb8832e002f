-- The rows of a sheet: as many as inputs and steps, each kept once it is worked, and all of them real ranges.
use mathlib.Core.Path.{◌≡◌, refl, sym, ap, ◌∙◌, subst}
use mathlib.Core.List.{List, [], ◌∷◌, ◌++◌}
use Prim.Native.Nat.{ℕ, zero, suc, ◌+◌, ◌*◌, ◌/◌, ◌<◌}
use native.Mathlib.Nat.{add-zero, not-suc-le-zero, le_of_suc-le-suc}
use native.Mathlib.Omega.{arith}
use lib.ListN.{length, get_or, take, get_or-append}
use lib.Seq.{get_or-append_seam, take-append_seam, take-take, take-length}
use Rattle.posit.specs.Format.{Format}
use Rattle.call.specs.Verdict.{Test}
use Rattle.sheet.specs.Sheet.{Step, no_step, steps_of, answer_of_step, with_row, rows_of, step_tests, steps_tests}
use Rattle.sheet.specs.Working.{Reals}
use Rattle.call.proofs.Tests.{Passing, passing_parts}
use Rattle.call.proofs.Blocks.{joined, joined_same}
use Rattle.sheet.proofs.Steps.{step_fits, row_real, reals_more, length_with_row}

-- ---- how many
pub length_steps : (bytes : List ℕ) → length (steps_of bytes) ≡ length bytes / 3
unfolding steps_of
length_steps [] = refl
length_steps (op ∷ []) = refl
length_steps (op ∷ left ∷ []) = refl
length_steps (op ∷ left ∷ right ∷ bytes) = omega (arith, length_steps bytes)

-- step k is the three bytes from 3k on
pub step_bytes : (bytes : List ℕ) (k : ℕ) → k < length (steps_of bytes)
    → get_or (steps_of bytes) k no_step ≡ record { operation = get_or bytes (3 * k) 0; left = get_or bytes (3 * k + 1) 0; right = get_or bytes (3 * k + 2) 0 }
unfolding steps_of
step_bytes [] k h = absurd (not-suc-le-zero h)
step_bytes (op ∷ []) k h = absurd (not-suc-le-zero h)
step_bytes (op ∷ left ∷ []) k h = absurd (not-suc-le-zero h)
step_bytes (op ∷ left ∷ right ∷ bytes) zero h = refl
step_bytes (op ∷ left ∷ right ∷ bytes) (suc k) h =
    let operation_at : 3 * suc k ≡ suc (suc (suc (3 * k))) = omega arith in
    let left_at : 3 * suc k + 1 ≡ suc (suc (suc (3 * k + 1))) = omega arith in
    let right_at : 3 * suc k + 2 ≡ suc (suc (suc (3 * k + 2))) = omega arith in
    rw (left_at, right_at, operation_at) (step_bytes bytes k (le_of_suc-le-suc h))

module _ (n es : ℕ) where
  pub length_rows : (rows : List ℕ) (steps : List Step) → length (rows_of n es rows steps) ≡ length rows + length steps
  unfolding rows_of
  length_rows rows [] = sym (add-zero (length rows))
  length_rows rows (s ∷ steps) = omega (arith, length_rows (with_row n es rows s) steps, length_with_row n es rows s)

  next_place : (rows : List ℕ) (s : Step) (k : ℕ) → length (with_row n es rows s) + k ≡ length rows + suc k
  next_place rows s k = omega (arith, length_with_row n es rows s)

  -- ---- rows are kept: the inputs as given, and each row as it was worked
  pub rows_kept : (rows : List ℕ) (steps : List Step) → take (length rows) (rows_of n es rows steps) ≡ rows
  unfolding rows_of
  rows_kept rows [] = take-length rows
  rows_kept rows (s ∷ steps) =
      let more = with_row n es rows s in
      let whole = rows_of n es more steps in
      sym (take-take (length rows) (length more) whole (omega (arith, length_with_row n es rows s)))
      ∙ ap (take (length rows)) (rows_kept more steps)
      ∙ take-append_seam rows (answer_of_step n es rows s ∷ [])

  pub row_kept : (rows : List ℕ) (steps : List Step) (k : ℕ) → k < length rows → get_or (rows_of n es rows steps) k 0 ≡ get_or rows k 0
  unfolding rows_of
  row_kept rows [] k h = refl
  row_kept rows (s ∷ steps) k h =
      row_kept (with_row n es rows s) steps k (omega (arith, length_with_row n es rows s)) ∙ get_or-append rows (answer_of_step n es rows s ∷ []) 0 k h

  -- the row of a step that was just worked
  pub row_worked : (rows : List ℕ) (s : Step) (steps : List Step) → get_or (rows_of n es (with_row n es rows s) steps) (length rows) 0 ≡ answer_of_step n es rows s
  row_worked rows s steps =
      row_kept (with_row n es rows s) steps (length rows) (omega (arith, length_with_row n es rows s)) ∙ get_or-append_seam rows (answer_of_step n es rows s) [] 0

  -- ---- all rows are real ranges
  pub rows_real : Format n es → (rows : List ℕ) (steps : List Step) → Reals n rows → Passing (steps_tests n es rows steps) → Reals n (rows_of n es rows steps)
  unfolding rows_of steps_tests
  rows_real f rows [] r p = r
  rows_real f rows (s ∷ steps) r p =
      let q = passing_parts (step_tests n es rows s) p in
      rows_real f (with_row n es rows s) steps (reals_more rows r (row_real {rows = rows} {s = s} f (step_fits {n = n} {es = es} {rows = rows} {s = s} q.0))) q.1

  -- ---- each step works the next row from the rows before it
  pub row_is : (rows : List ℕ) (steps : List Step) (k : ℕ) → k < length steps
      → get_or (rows_of n es rows steps) (length rows + k) 0 ≡ answer_of_step n es (take (length rows + k) (rows_of n es rows steps)) (get_or steps k no_step)
  unfolding rows_of
  row_is rows [] k h = absurd (not-suc-le-zero h)
  row_is rows (s ∷ steps) zero h =
      let whole = rows_of n es (with_row n es rows s) steps in
      ap (λ (m : ℕ). get_or whole m 0) (add-zero (length rows))
      ∙ row_worked rows s steps
      ∙ ap (λ (l : List ℕ). answer_of_step n es l s) (sym (rows_kept rows (s ∷ steps)) ∙ ap (λ (m : ℕ). take m whole) (sym (add-zero (length rows))))
  row_is rows (s ∷ steps) (suc k) h =
      let more = with_row n es rows s in
      subst (λ (m : ℕ). get_or (rows_of n es more steps) m 0 ≡ answer_of_step n es (take m (rows_of n es more steps)) (get_or steps k no_step))
      (next_place rows s k) (row_is more steps k (le_of_suc-le-suc h))

  -- ---- the tests of all steps, step by step
  pub steps_joined : (rows : List ℕ) (steps : List Step)
      → steps_tests n es rows steps ≡ joined (λ k. step_tests n es (take (length rows + k) (rows_of n es rows steps)) (get_or steps k no_step)) (length steps)
  unfolding rows_of steps_tests joined
  steps_joined rows [] = refl
  steps_joined rows (s ∷ steps) =
      let more = with_row n es rows s in
      let whole = rows_of n es more steps in
      ap (λ (l : List ℕ). step_tests n es l s ++ steps_tests n es more steps) (sym (rows_kept rows (s ∷ steps)) ∙ ap (λ (m : ℕ). take m whole) (sym (add-zero (length rows))))
      ∙ ap (λ (ts : List Test). step_tests n es (take (length rows + 0) whole) s ++ ts)
      (steps_joined more steps
      ∙ joined_same (length steps) (λ k h. ap (λ (m : ℕ). step_tests n es (take m whole) (get_or steps k no_step)) (next_place rows s k)))
