-- A sheet call's number and place, exactly when: done, and refused by the lengths, at the first input or at the first step that does not pass.
use mathlib.Core.Path.{◌≡◌, refl, sym, ap, ◌∙◌, subst}
use mathlib.Core.Logic.{◌≢◌, ◌↔◌, ◌⊎◌, inl, inr, ⊎_elim}
use mathlib.Core.List.{List, ◌++◌}
use Prim.Native.Nat.{ℕ, ◌+◌, ◌<◌}
use native.Mathlib.Nat.{zero-add}
use native.Mathlib.Omega.{arith}
use lib.ListN.{length, get_or}
use lib.Seq.{length-take-le}
use Rattle.call.specs.Verdict.{Verdict, Test, first_hit}
use Rattle.word.specs.Refusal.{word_tests}
use Rattle.sheet.specs.Accepted.{SheetFits, StepFits, SheetAccepted, rows_before}
use Rattle.sheet.specs.Sheet.{Step, no_step, steps_of, rows_of, sheet_limits, inputs_tests, step_tests, steps_tests, verdict_of_sheet}
use Rattle.sheet.specs.Working.{Reals}
use Rattle.call.proofs.Tests.{Passing, Refusal, Giving, gives_none, gives_one, gives_both, refusal_given, done_exactly, passing_parts, passing_both, refused_by_parts}
use Rattle.call.proofs.Blocks.{joined, joined_same, each_passes, all_passing, RefusedAt, refused_exactly_at}
use Rattle.word.proofs.WordTests.{word_place, word_refusing, real_passing}
use Rattle.sheet.proofs.Limits.{sheet_refusing, sheet_fits, sheet_passing}
use Rattle.sheet.proofs.Steps.{inputs_refusing, inputs_joined, inputs_real, step_refusing, steps_refusing, step_fits, fits_step}
use Rattle.sheet.proofs.Rows.{length_rows, steps_joined}

-- the tests of input k, and of step k
abbrev pub input_block : ℕ → List ℕ → ℕ → List Test
input_block n inputs k = word_tests n k (get_or inputs k 0)

abbrev pub step_block : ℕ → ℕ → List ℕ → List Step → ℕ → List Test
step_block n es inputs steps k = step_tests n es (rows_before n es inputs steps k) (get_or steps k no_step)

-- ---- places: an input's refusal has its row, and a step's has its own row
pub input_place : (n place w : ℕ) {v : Verdict} → first_hit (word_tests n place w) ≡ v → Refusal v → v.place ≡ place
input_place n place w {v} e d =
    subst (λ (u : Verdict). u.place ≡ place) e (refusal_given {P = λ u. u.place ≡ place} (word_place n place w) (subst Refusal (sym e) d))

step_gives : (n es : ℕ) (rows : List ℕ) (s : Step) {v : Verdict} (P : Verdict → Type 0) → Giving P (step_tests n es rows s) → first_hit (step_tests n es rows s) ≡ v → Refusal v → P v
step_gives n es rows s P g e d = subst P e (refusal_given g (subst Refusal (sym e) d))

pub step_place : (n es : ℕ) (inputs : List ℕ) (steps : List Step) (k : ℕ) {v : Verdict} → k < length steps
    → first_hit (step_block n es inputs steps k) ≡ v → Refusal v → v.place ≡ length inputs + k
step_place n es inputs steps k h e d =
    step_gives n es (rows_before n es inputs steps k) (get_or steps k no_step) (λ u. u.place ≡ length (rows_before n es inputs steps k)) (gives_one refl (gives_one refl (gives_one refl gives_none))) e d
    ∙ length-take-le (length inputs + k) (rows_of n es inputs steps) (omega (arith, length_rows n es inputs steps))

-- ---- answers of steps never give 3 or 4: a step's number is 2, 8 or 5
pub record NoWordNumber (v : Verdict) : Type 0 where
  pub not_three : v.number ≢ 3
  pub not_four : v.number ≢ 4

apart : {v : Verdict} {k : ℕ} → v.number ≡ k → k ≢ 3 → k ≢ 4 → NoWordNumber v
apart e a b = record { not_three = λ z. a (sym e ∙ z); not_four = λ z. b (sym e ∙ z) }

pub step_number : (n es : ℕ) (rows : List ℕ) (s : Step) {v : Verdict} → first_hit (step_tests n es rows s) ≡ v → Refusal v → NoWordNumber v
step_number n es rows s e d =
    step_gives n es rows s NoWordNumber
    (gives_one (apart refl (λ z. omega arith) (λ z. omega arith))
    (gives_one (apart refl (λ z. omega arith) (λ z. omega arith)) (gives_one (apart refl (λ z. omega arith) (λ z. omega arith)) gives_none)))
    e d

module _ (n es : ℕ) (inputs bytes : List ℕ) (lent : ℕ) where
  abbrev steps : List Step
  steps = steps_of bytes

  abbrev limits : List Test
  limits = sheet_limits n es (length inputs) (length bytes) lent

  inputs_by_block : inputs_tests n 0 inputs ≡ joined (input_block n inputs) (length inputs)
  inputs_by_block = inputs_joined n 0 inputs ∙ joined_same (length inputs) (λ k h. ap (λ (m : ℕ). word_tests n m (get_or inputs k 0)) (zero-add k))

  fits_of : Passing limits → SheetFits n es (length inputs) (length bytes) lent
  fits_of p = sheet_fits p

  -- ---- inputs and steps that pass
  inputs_pass : Reals n inputs → Passing (inputs_tests n 0 inputs)
  inputs_pass r = subst Passing (sym inputs_by_block) (all_passing (input_block n inputs) (length inputs) (λ k h. real_passing n k (get_or inputs k 0) (r k h)))

  pub steps_pass : SheetAccepted n es inputs bytes lent → Passing (steps_tests n es inputs steps)
  steps_pass a = subst Passing (sym (steps_joined n es inputs steps)) (all_passing (step_block n es inputs steps) (length steps) (λ k h. fits_step (a.step_fits k h)))

  step_there : Passing (steps_tests n es inputs steps) → (k : ℕ) → k < length steps → StepFits n es (rows_before n es inputs steps k) (get_or steps k no_step)
  step_there p k h = step_fits (each_passes (step_block n es inputs steps) (length steps) (subst Passing (steps_joined n es inputs steps) p) k h)

  -- ---- number 0
  pub sheet_done_exactly : ((verdict_of_sheet n es inputs bytes lent).number ≡ 0) ↔ SheetAccepted n es inputs bytes lent
  unfolding verdict_of_sheet
  sheet_done_exactly = (λ z. accepted (exactly.0 z), λ a. exactly.1 (passed a))
    where
      exactly : ((first_hit (limits ++ (inputs_tests n 0 inputs ++ steps_tests n es inputs steps))).number ≡ 0) ↔ Passing (limits ++ (inputs_tests n 0 inputs ++ steps_tests n es inputs steps))
      exactly = done_exactly (gives_both (sheet_refusing n es (length inputs) (length bytes) lent) (gives_both (inputs_refusing n 0 inputs) (steps_refusing n es inputs steps)))

      accepted : Passing (limits ++ (inputs_tests n 0 inputs ++ steps_tests n es inputs steps)) → SheetAccepted n es inputs bytes lent
      accepted p =
          let q = passing_parts limits p in
          let r = passing_parts (inputs_tests n 0 inputs) q.1 in
          record { fits = fits_of q.0; inputs_real = inputs_real n 0 inputs r.0; step_fits = step_there r.1 }

      passed : SheetAccepted n es inputs bytes lent → Passing (limits ++ (inputs_tests n 0 inputs ++ steps_tests n es inputs steps))
      passed a = passing_both (sheet_passing a.fits) (passing_both (inputs_pass a.inputs_real) (steps_pass a))

  -- ---- any other number, with its place
  pub data SheetRefused (v : Verdict) : Type 0 where
    by_lengths : first_hit (sheet_limits n es (length inputs) (length bytes) lent) ≡ v → SheetRefused v
    at_input : SheetFits n es (length inputs) (length bytes) lent → RefusedAt (input_block n inputs) (length inputs) v → SheetRefused v
    at_step : SheetFits n es (length inputs) (length bytes) lent → Reals n inputs → RefusedAt (step_block n es inputs (steps_of bytes)) (length (steps_of bytes)) v → SheetRefused v

  module _ {v : Verdict} (d : Refusal v) where
    by_input : (first_hit (joined (input_block n inputs) (length inputs)) ≡ v) ↔ RefusedAt (input_block n inputs) (length inputs) v
    by_input = refused_exactly_at d (input_block n inputs) (length inputs) (λ k. word_refusing n k (get_or inputs k 0))

    by_step : (first_hit (joined (step_block n es inputs steps) (length steps)) ≡ v) ↔ RefusedAt (step_block n es inputs steps) (length steps) v
    by_step = refused_exactly_at d (step_block n es inputs steps) (length steps) (λ k. step_refusing n es (rows_before n es inputs steps k) (get_or steps k no_step))

    of_limits : (first_hit (limits ++ (inputs_tests n 0 inputs ++ steps_tests n es inputs steps)) ≡ v) ↔ ((first_hit limits ≡ v) ⊎ (Passing limits × (first_hit (inputs_tests n 0 inputs ++ steps_tests n es inputs steps) ≡ v)))
    of_limits = refused_by_parts (sheet_refusing n es (length inputs) (length bytes) lent) (inputs_tests n 0 inputs ++ steps_tests n es inputs steps) d

    of_inputs : (first_hit (inputs_tests n 0 inputs ++ steps_tests n es inputs steps) ≡ v) ↔ ((first_hit (inputs_tests n 0 inputs) ≡ v) ⊎ (Passing (inputs_tests n 0 inputs) × (first_hit (steps_tests n es inputs steps) ≡ v)))
    of_inputs = refused_by_parts (inputs_refusing n 0 inputs) (steps_tests n es inputs steps) d

    pub sheet_refused_exactly : (verdict_of_sheet n es inputs bytes lent ≡ v) ↔ SheetRefused v
    unfolding verdict_of_sheet
    sheet_refused_exactly = (λ e. ⊎_elim by_lengths (λ w. behind (fits_of w.0) (of_inputs.0 w.1)) (of_limits.0 e), back)
      where
        behind : SheetFits n es (length inputs) (length bytes) lent → (first_hit (inputs_tests n 0 inputs) ≡ v) ⊎ (Passing (inputs_tests n 0 inputs) × (first_hit (steps_tests n es inputs steps) ≡ v)) → SheetRefused v
        behind f =
            ⊎_elim (λ e. at_input f (by_input.0 (sym (ap first_hit inputs_by_block) ∙ e)))
            (λ w. at_step f (inputs_real n 0 inputs w.0) (by_step.0 (sym (ap first_hit (steps_joined n es inputs steps)) ∙ w.1)))

        back : SheetRefused v → first_hit (limits ++ (inputs_tests n 0 inputs ++ steps_tests n es inputs steps)) ≡ v
        back (by_lengths e) = of_limits.1 (inl e)
        back (at_input f r) = of_limits.1 (inr (sheet_passing f, of_inputs.1 (inl (ap first_hit inputs_by_block ∙ by_input.1 r))))
        back (at_step f i r) = of_limits.1 (inr (sheet_passing f, of_inputs.1 (inr (inputs_pass i, ap first_hit (steps_joined n es inputs steps) ∙ by_step.1 r))))
