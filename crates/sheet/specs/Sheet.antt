-- A sheet: inputs are the first rows, kept as given, and each step works one more row from two earlier ones.
use Rattle.std.specs.Prelude.{List, [], ◌∷◌, ◌++◌, ℕ, suc, ◌+◌, ◌/◌, length, get_or}
use Rattle.call.specs.Verdict.{Verdict, Test, first_hit}
use Rattle.posit.specs.Refusal.{format_test}
use Rattle.word.specs.Computed.{answer_of}
use Rattle.sheet.specs.Refusal.{step_bytes, size_test, earlier_test}
use Rattle.column.specs.Refusal.{divisor_test_at}
use Rattle.call.specs.Written.{room_test}
use Rattle.word.specs.Refusal.{word_tests}
use Rattle.call.specs.Operation.{operation_test_at}

-- a step is an operation number and two earlier rows
pub record Step : Type 0 where
  pub operation : ℕ
  pub left : ℕ
  pub right : ℕ

abbrev pub no_step : Step
no_step = record { operation = 0; left = 0; right = 0 }

-- three bytes a step
unfoldable pub steps_of : List ℕ → List Step
steps_of [] = []
steps_of (op ∷ []) = []
steps_of (op ∷ left ∷ []) = []
steps_of (op ∷ left ∷ right ∷ bytes) = record { operation = op; left = left; right = right } ∷ steps_of bytes

-- the row that a step works from the rows before it
abbrev pub answer_of_step : ℕ → ℕ → List ℕ → Step → ℕ
answer_of_step n es rows s = answer_of n es s.operation (get_or rows s.left 0) (get_or rows s.right 0)

abbrev pub with_row : ℕ → ℕ → List ℕ → Step → List ℕ
with_row n es rows s = rows ++ answer_of_step n es rows s ∷ []

-- all rows
unfoldable pub rows_of : ℕ → ℕ → List ℕ → List Step → List ℕ
rows_of n es rows [] = rows
rows_of n es rows (s ∷ steps) = rows_of n es (with_row n es rows s) steps

-- ---- the tests: 1, 7 and 9, of the lengths of the inputs, the step list and the lent column
abbrev pub sheet_limits : ℕ → ℕ → ℕ → ℕ → ℕ → List Test
sheet_limits n es inputs bytes lent = format_test n es ∷ size_test inputs bytes ∷ room_test 0 (inputs + bytes / step_bytes) lent ∷ []

-- each input 3, 4, the first one's row given
unfoldable pub inputs_tests : ℕ → ℕ → List ℕ → List Test
inputs_tests n row [] = []
inputs_tests n row (w ∷ inputs) = word_tests n row w ++ inputs_tests n (suc row) inputs

-- a step 2, 8, 5, after the rows before it; its own row is the next
abbrev pub step_tests : ℕ → ℕ → List ℕ → Step → List Test
step_tests n es rows s =
    operation_test_at (length rows) s.operation ∷ earlier_test (length rows) s.left s.right
    ∷ divisor_test_at n es (length rows) s.operation (get_or rows s.right 0) ∷ []

-- each step in order
unfoldable pub steps_tests : ℕ → ℕ → List ℕ → List Step → List Test
steps_tests n es rows [] = []
steps_tests n es rows (s ∷ steps) = step_tests n es rows s ++ steps_tests n es (with_row n es rows s) steps

abbrev pub sheet_tests : ℕ → ℕ → List ℕ → List ℕ → ℕ → List Test
sheet_tests n es inputs bytes lent =
    sheet_limits n es (length inputs) (length bytes) lent ++ (inputs_tests n 0 inputs ++ steps_tests n es inputs (steps_of bytes))

-- the last argument is the length of the lent column
unfoldable pub verdict_of_sheet : ℕ → ℕ → List ℕ → List ℕ → ℕ → Verdict
verdict_of_sheet n es inputs bytes lent = first_hit (sheet_tests n es inputs bytes lent)
