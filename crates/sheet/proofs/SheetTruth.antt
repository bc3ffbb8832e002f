-- An accepted sheet is true: whatever fraction is picked from each input range that a row depends on, its exact work meets no zero divisor and its
-- exact value lies in its range; and each computed row is the answer for its two operand rows.
use mathlib.Core.Path.{◌≡◌, refl, sym, ap, ◌∙◌, subst}
use mathlib.Core.Bool.{false}
use mathlib.Core.Logic.{◌↔◌}
use mathlib.Core.List.{List}
use Prim.Native.Nat.{ℕ, zero, suc, ◌+◌, ◌-◌, ◌<◌}
use native.Mathlib.Decide.{dec_lt}
use native.Mathlib.Omega.{arith}
use lib.ListN.{length, get_or, take}
use lib.Seq.{length-take-le, get_or-take}
use Rattle.exact.specs.Fraction.{Fraction, ◌≈◌}
use Rattle.bound.proofs.Extent.{NoMember}
use Rattle.call.specs.Operation.{over}
use Rattle.posit.specs.Arithmetic.{exact_result}
use Rattle.call.specs.Verdict.{done, first_hit}
use Rattle.word.specs.Member.{Member}
use Rattle.word.specs.Smallest.{IsAnswer, Result}
use Rattle.word.specs.Computed.{answer_of}
use Rattle.word.proofs.Computed.{answer_computed}
use Rattle.word.proofs.Empty.{empty_answer_iff}
use Rattle.word.proofs.Sheets.{no_zero_member, result_in_answer}
use Rattle.std.specs.Prelude.{Ok}
use Rattle.call.proofs.Answered.{accepts}
use Rattle.word.specs.Refusal.{word_tests}
use Rattle.column.specs.Refusal.{holds_zero}
use Rattle.sheet.specs.Accepted.{SheetAccepted, rows_before}
use Rattle.sheet.specs.Sheet.{Step, no_step, steps_of, rows_of, verdict_of_sheet}
use Rattle.sheet.specs.Depends.{DependsOn, itself, by_left, by_right}
use Rattle.sheet.specs.Exact.{nought, exact_rows, DivisorNotZero, NoZeroDivisor, Members, MembersFor, RowTrue}
use Rattle.sheet.specs.Working.{Reals}
use Rattle.call.specs.Written.{Writes}
use Rattle.call.proofs.Tests.{passing_done}
use Rattle.word.proofs.WordTests.{real_passing}
use Rattle.sheet.proofs.Rows.{length_rows, length_steps, rows_real, rows_kept, row_kept, row_is}
use Rattle.sheet.proofs.ExactRows.{length_exact, exact_kept, exact_is}
use Rattle.sheet.proofs.Depends.{depends_further}
use Rattle.call.proofs.WrittenAt.{written_at}
use Rattle.sheet.proofs.SheetVerdict.{steps_pass, sheet_done_exactly}

-- a divisor that passed has no member that is 0
divisor_apart : (n es w : ℕ) → holds_zero n es w ≡ false → (x : Fraction) → Member n es w x → ¬ (x ≈ nought)
unfolding holds_zero
divisor_apart n es w h = no_zero_member n es w h

module _ {n es : ℕ} (inputs bytes : List ℕ) (lent : ℕ) (a : SheetAccepted n es inputs bytes lent) where
  abbrev steps : List Step
  steps = steps_of bytes

  abbrev rows : List ℕ
  rows = rows_of n es inputs steps

  -- ---- the rows: inputs as given, as many as inputs and steps, and every one a real range, so that none would give 3 or 4
  pub inputs_kept : take (length inputs) (rows_of n es inputs (steps_of bytes)) ≡ inputs
  inputs_kept = rows_kept n es inputs steps

  pub rows_real_all : Reals n (rows_of n es inputs (steps_of bytes))
  rows_real_all = rows_real n es a.fits.format inputs steps a.inputs_real (steps_pass n es inputs bytes lent a)

  pub row_never_refused : (row : ℕ) → row < length (rows_of n es inputs (steps_of bytes)) → first_hit (word_tests n row (get_or (rows_of n es inputs (steps_of bytes)) row 0)) ≡ done
  row_never_refused row h = passing_done (real_passing n row (get_or rows row 0) (rows_real_all row h))

  -- ---- the rows that a step names are earlier
  before_length : (k : ℕ) → k < length steps → length (rows_before n es inputs steps k) ≡ length inputs + k
  before_length k h = length-take-le (length inputs + k) rows (omega (arith, length_rows n es inputs steps))

  pub left_row_earlier : (k : ℕ) → k < length (steps_of bytes) → (get_or (steps_of bytes) k no_step).left < length inputs + k
  left_row_earlier k h = subst (λ (m : ℕ). (get_or steps k no_step).left < m) (before_length k h) (a.step_fits k h).left_earlier

  pub right_row_earlier : (k : ℕ) → k < length (steps_of bytes) → (get_or (steps_of bytes) k no_step).right < length inputs + k
  right_row_earlier k h = subst (λ (m : ℕ). (get_or steps k no_step).right < m) (before_length k h) (a.step_fits k h).right_earlier

  -- a computed row is its step's answer for two rows of the sheet
  row_computed : (k : ℕ) → k < length steps → let s = get_or steps k no_step in
      get_or rows (length inputs + k) 0 ≡ answer_of n es s.operation (get_or rows s.left 0) (get_or rows s.right 0)
  row_computed k h =
      let s = get_or steps k no_step in
      row_is n es inputs steps k h
      ∙ ap (λ (w : ℕ). answer_of n es s.operation w (get_or (rows_before n es inputs steps k) s.right 0)) (get_or-take (length inputs + k) rows s.left 0 (left_row_earlier k h))
      ∙ ap (λ (w : ℕ). answer_of n es s.operation (get_or rows s.left 0) w) (get_or-take (length inputs + k) rows s.right 0 (right_row_earlier k h))

  -- ---- demand 3, one row: pick any fraction from each input range that the row depends on
  divisor_clear : (k : ℕ) → k < length steps → (get_or steps k no_step).operation ≡ over → holds_zero n es (get_or rows (get_or steps k no_step).right 0) ≡ false
  divisor_clear k h d =
      let right = (get_or steps k no_step).right in
      subst (λ (w : ℕ). holds_zero n es w ≡ false) (get_or-take (length inputs + k) rows right 0 (right_row_earlier k h)) ((a.step_fits k h).divisor d)

  module _ (xs : List Fraction) (many : length xs ≡ length inputs) where
    abbrev exact : List Fraction
    exact = exact_rows xs steps

    abbrev InRow : ℕ → Type 0
    InRow row = Member n es (get_or rows row 0) (get_or exact row nought)

    exact_computed : (k : ℕ) → k < length steps → let s = get_or steps k no_step in
        get_or exact (length inputs + k) nought ≡ exact_result s.operation (get_or exact s.left nought) (get_or exact s.right nought)
    exact_computed k h =
        let s = get_or steps k no_step in
        subst (λ (m : ℕ). get_or exact (m + k) nought ≡ exact_result s.operation (get_or exact s.left nought) (get_or exact s.right nought)) many
        (exact_is xs steps k h (omega (arith, left_row_earlier k h)) (omega (arith, right_row_earlier k h)))

    input_in_row : (i : ℕ) → i < length inputs → Member n es (get_or inputs i 0) (get_or xs i nought) → InRow i
    input_in_row i h m = rw (row_kept n es inputs steps i h, exact_kept xs steps i (omega arith)) m

    divisor_not_zero : (k : ℕ) → k < length steps → InRow (get_or steps k no_step).right → DivisorNotZero xs steps k
    divisor_not_zero k h m d = divisor_apart n es (get_or rows (get_or steps k no_step).right 0) (divisor_clear k h d) _ m

    step_in_row : (k : ℕ) → k < length steps → InRow (get_or steps k no_step).left → InRow (get_or steps k no_step).right → InRow (length inputs + k)
    step_in_row k h l r =
        rw (row_computed k h, exact_computed k h)
        (result_in_answer n es (get_or steps k no_step).operation _ _ a.fits.format.wide_enough (a.step_fits k h).operation l r (divisor_not_zero k h r))

    abbrev Picked : ℕ → Type 0
    Picked row = (i : ℕ) → i < length inputs → DependsOn (length inputs) steps row i → Member n es (get_or inputs i 0) (get_or xs i nought)

    -- a row by the rows before it, and so every row
    next_in_row : (row : ℕ) → row < length inputs + length steps → ((r : ℕ) → r < row → Picked r → InRow r) → Picked row → InRow row
    next_in_row row h before pick = go (dec_lt row (length inputs))
      where
        go : Dec (row < length inputs) → InRow row
        go (yes i) = input_in_row row i (pick row i itself)
        go (no i) =
            let k = row - length inputs in
            let e : row ≡ length inputs + k = omega arith in
            let f : k < length steps = omega arith in
            let s = get_or steps k no_step in
            rw e
            (step_in_row k f
            (before s.left (omega (arith, left_row_earlier k f)) (λ j q d. pick j q (by_left e f d)))
            (before s.right (omega (arith, right_row_earlier k f)) (λ j q d. pick j q (by_right e f d))))

    in_row : (m row : ℕ) → row < m → row < length inputs + length steps → Picked row → InRow row
    in_row zero row l h pick = absurd (omega arith)
    in_row (suc m) row l h pick = next_in_row row h (λ r q. in_row m r (omega arith) (omega arith)) pick

  pub row_true : (row : ℕ) → row < length inputs + length (steps_of bytes) → (xs : List Fraction) → MembersFor n es row inputs (steps_of bytes) xs
      → RowTrue n es row inputs (steps_of bytes) xs
  row_true row h xs m =
      record {
        no_zero_divisor = λ k i d.
            let r = right_row_earlier k i in
            divisor_not_zero xs m.as_many k i
            (in_row xs m.as_many _ (get_or steps k no_step).right r (omega (arith, r)) (λ j q e. m.member j q (depends_further d (by_right refl i e))));
        member = in_row xs m.as_many (suc row) row (omega arith) h m.member;
      }

  -- ---- and the whole sheet: pick any fraction from each input range
  pub sheet_true : (xs : List Fraction) → Members n es inputs xs
      → NoZeroDivisor xs (steps_of bytes) × Members n es (rows_of n es inputs (steps_of bytes)) (exact_rows xs (steps_of bytes))
  sheet_true xs m = (
    λ k h. (each (length inputs + k) (omega arith)).no_zero_divisor k h itself,
    record {
      as_many = omega (arith, length_exact xs steps, length_rows n es inputs steps, m.as_many);
      member = λ row h. (each row (omega (arith, length_rows n es inputs steps))).member;
    },
  )
    where
      each : (row : ℕ) → row < length inputs + length steps → RowTrue n es row inputs steps xs
      each row h = row_true row h xs (record { as_many = m.as_many; member = λ i q d. m.member i q })

  -- a computed row is the answer for its two operand ranges, taken as independent
  pub row_answered : (k : ℕ) → k < length (steps_of bytes) → let s = get_or (steps_of bytes) k no_step in let all = rows_of n es inputs (steps_of bytes) in
      IsAnswer n es (Result n es s.operation (get_or all s.left 0) (get_or all s.right 0)) (get_or all (length inputs + k) 0)
  row_answered k h =
      let s = get_or steps k no_step in
      subst (λ (w : ℕ). IsAnswer n es (Result n es s.operation (get_or rows s.left 0) (get_or rows s.right 0)) w) (sym (row_computed k h))
      (answer_computed n es s.operation (get_or rows s.left 0) (get_or rows s.right 0) a.fits.format.wide_enough (a.step_fits k h).operation)

  -- it is empty exactly where its operand ranges give no exact result
  pub row_empty_exactly : (k : ℕ) → k < length (steps_of bytes) → let s = get_or (steps_of bytes) k no_step in let all = rows_of n es inputs (steps_of bytes) in
      NoMember (Member n es (get_or all (length inputs + k) 0)) ↔ NoMember (Result n es s.operation (get_or all s.left 0) (get_or all s.right 0))
  row_empty_exactly k h = empty_answer_iff a.fits.format.wide_enough (row_answered k h)

-- ---- the lent column of a call that is done holds the rows
module _ (n es : ℕ) (inputs bytes : List ℕ) (before after : List ℕ) (count : ℕ)
    (w : Writes (verdict_of_sheet n es inputs bytes (length before)) 0 (rows_of n es inputs (steps_of bytes)) before after (Ok count)) where
  pub accepted : SheetAccepted n es inputs bytes (length before)
  accepted = (sheet_done_exactly n es inputs bytes (length before)).0 (accepts w.count.0)

  pub written_row : (row : ℕ) → row < length inputs + length (steps_of bytes) → get_or after (0 + row) 0 ≡ get_or (rows_of n es inputs (steps_of bytes)) row 0
  written_row row h =
      let many = length_rows n es inputs (steps_of bytes) in
      written_at w (accepts w.count.0) (omega (arith, accepted.fits.room, length_steps bytes)) row (omega arith)
