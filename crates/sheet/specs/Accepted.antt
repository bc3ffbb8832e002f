-- What a sheet call has, in full, exactly where it is done.
use Rattle.std.specs.Prelude.{◌≡◌, false, List, ℕ, ◌+◌, ◌/◌, ◌%◌, ◌≤◌, ◌<◌, length, get_or, take}
use Rattle.call.specs.Operation.{over}
use Rattle.posit.specs.Format.{Format}
use Rattle.column.specs.Refusal.{holds_zero}
use Rattle.sheet.specs.Refusal.{most_inputs, most_steps, step_bytes}
use Rattle.sheet.specs.Sheet.{Step, no_step, steps_of, rows_of}
use Rattle.sheet.specs.Working.{Reals}

pub record SheetFits (n es inputs bytes lent : ℕ) : Type 0 where
  pub format : Format n es
  pub few_inputs : inputs ≤ most_inputs
  pub few_steps : bytes / step_bytes ≤ most_steps
  pub whole_steps : bytes % step_bytes ≡ 0
  pub room : 0 + (inputs + bytes / step_bytes) ≤ lent

pub record StepFits (n es : ℕ) (rows : List ℕ) (s : Step) : Type 0 where
  pub operation : s.operation ≤ 3
  pub left_earlier : s.left < length rows
  pub right_earlier : s.right < length rows
  pub divisor : s.operation ≡ over → holds_zero n es (get_or rows s.right 0) ≡ false

-- the rows before step k are the first inputs + k of all rows
abbrev pub rows_before : ℕ → ℕ → List ℕ → List Step → ℕ → List ℕ
rows_before n es inputs steps k = take (length inputs + k) (rows_of n es inputs steps)

pub record SheetAccepted (n es : ℕ) (inputs bytes : List ℕ) (lent : ℕ) : Type 0 where
  pub fits : SheetFits n es (length inputs) (length bytes) lent
  pub inputs_real : Reals n inputs
  pub step_fits : (k : ℕ) → k < length (steps_of bytes) → StepFits n es (rows_before n es inputs (steps_of bytes) k) (get_or (steps_of bytes) k no_step)
