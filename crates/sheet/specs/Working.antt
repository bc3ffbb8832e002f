-- The inner promises of a sheet's work: its operations, rows that are real ranges, and the rows that its steps come to.
use Rattle.std.specs.Prelude.{◌≡◌, List, ℕ, ◌<◌, length, get_or}
use Rattle.call.specs.declared.operation.Operation.{Operation}
use Rattle.call.specs.Operation.{number_of}
use Rattle.word.specs.Member.{Real}
use Rattle.sheet.specs.Sheet.{steps_of, rows_of}

-- the operation of a number
abbrev pub IsOperation : ℕ → Operation → Type 0
IsOperation op o = op ≡ number_of o

abbrev pub Reals : ℕ → List ℕ → Type 0
Reals n ws = (row : ℕ) → row < length ws → Real n (get_or ws row 0)

-- all rows of a sheet with these first rows and bytes of steps; what a call answers beside them is nothing
abbrev pub AreRows : ℕ → ℕ → List ℕ → List ℕ → List ℕ → Unit {0} → Type 0
AreRows n es first bytes rows answer = rows ≡ rows_of n es first (steps_of bytes)
