-- A sheet worked in exact fractions, one fraction from each input range.
use Rattle.std.specs.Prelude.{◌≡◌, List, [], ◌∷◌, ◌++◌, ℕ, ◌+◌, ◌<◌, pos, length, get_or}
use Rattle.exact.specs.Fraction.{Fraction, ◌≈◌, whole}
use Rattle.call.specs.Operation.{over}
use Rattle.posit.specs.Arithmetic.{exact_result}
use Rattle.word.specs.Member.{Member}
use Rattle.sheet.specs.Sheet.{Step, no_step, rows_of}
use Rattle.sheet.specs.Depends.{DependsOn}

abbrev pub nought : Fraction
nought = whole (pos 0)

-- the exact value of a step after the exact values of the rows before it
abbrev pub exact_of_step : List Fraction → Step → Fraction
exact_of_step xs s = exact_result s.operation (get_or xs s.left nought) (get_or xs s.right nought)

abbrev pub with_exact : List Fraction → Step → List Fraction
with_exact xs s = xs ++ exact_of_step xs s ∷ []

-- the exact values of all rows
unfoldable pub exact_rows : List Fraction → List Step → List Fraction
exact_rows xs [] = xs
exact_rows xs (s ∷ steps) = exact_rows (with_exact xs s) steps

-- step k, where it divides, divides by no zero; and the same of every step
abbrev pub DivisorNotZero : List Fraction → List Step → ℕ → Type 0
DivisorNotZero xs steps k = (get_or steps k no_step).operation ≡ over → ¬ (get_or (exact_rows xs steps) (get_or steps k no_step).right nought ≈ nought)

abbrev pub NoZeroDivisor : List Fraction → List Step → Type 0
NoZeroDivisor xs steps = (k : ℕ) → k < length steps → DivisorNotZero xs steps k

-- one fraction for each word, each a member of its range
pub record Members (n es : ℕ) (ws : List ℕ) (xs : List Fraction) : Type 0 where
  pub as_many : length xs ≡ length ws
  pub member : (row : ℕ) → row < length ws → Member n es (get_or ws row 0) (get_or xs row nought)

-- ---- one row by itself
-- one fraction for each input; those that the row depends on are members of their ranges, and any other may be anything
pub record MembersFor (n es row : ℕ) (inputs : List ℕ) (steps : List Step) (xs : List Fraction) : Type 0 where
  pub as_many : length xs ≡ length inputs
  pub member : (i : ℕ) → i < length inputs → DependsOn (length inputs) steps row i → Member n es (get_or inputs i 0) (get_or xs i nought)

-- no row that it depends on divides by zero, and its exact value is a member of its range
pub record RowTrue (n es row : ℕ) (inputs : List ℕ) (steps : List Step) (xs : List Fraction) : Type 0 where
  pub no_zero_divisor : (k : ℕ) → k < length steps → DependsOn (length inputs) steps row (length inputs + k) → DivisorNotZero xs steps k
  pub member : Member n es (get_or (rows_of n es inputs steps) row 0) (get_or (exact_rows xs steps) row nought)
