-- The sheet file, version 1: its layout both ways, its tests in their order, and the rows of its sheet.
use Rattle.std.specs.Prelude.{Bool, not, ◌&&◌, ◌||◌, List, [], ◌∷◌, ◌++◌, ℕ, zero, suc, ◌+◌, ◌*◌, ◌/◌, ◌%◌, ◌^◌, ◌≤◌, ◌<◌, eqb, ltb, length, get_or, take, drop}
use Rattle.posit.specs.Format.{Format}
use Rattle.call.specs.Number.{bad_file, wrong_length}
use Rattle.call.specs.Verdict.{Verdict, Test, first_hit}
use Rattle.posit.specs.Refusal.{format_test}
use Rattle.sheet.specs.Refusal.{most_inputs, most_steps, step_bytes}
use Rattle.sheet.specs.Sheet.{Step, steps_of, rows_of, sheet_tests}

-- what a file holds
pub record SheetFile : Type 0 where
  pub n : ℕ
  pub es : ℕ
  pub inputs : List ℕ
  pub steps : List Step

-- the bytes of mark, version, n, es, input count and step count, and those of an input
abbrev pub head_bytes : ℕ
head_bytes = 9

abbrev pub word_bytes : ℕ
word_bytes = 8

-- "RSH"
abbrev pub mark : List ℕ
mark = 0x52 ∷ 0x53 ∷ 0x48 ∷ []

abbrev pub version : ℕ
version = 1

-- ---- numbers as bytes, low byte first: so many bytes of a number, and the number of some bytes
unfoldable pub low_first : ℕ → ℕ → List ℕ
low_first zero x = []
low_first (suc k) x = x % 256 ∷ low_first k (x / 256)

unfoldable pub number_of : List ℕ → ℕ
number_of [] = 0
number_of (byte ∷ bytes) = byte + 256 * number_of bytes

-- every one is a byte
pub record Bytes (bytes : List ℕ) : Type 0 where
  pub below : (at : ℕ) → get_or bytes at 0 < 256

-- ---- from a sheet to its bytes
unfoldable pub bytes_of_inputs : List ℕ → List ℕ
bytes_of_inputs [] = []
bytes_of_inputs (w ∷ inputs) = low_first word_bytes w ++ bytes_of_inputs inputs

unfoldable pub bytes_of_steps : List Step → List ℕ
bytes_of_steps [] = []
bytes_of_steps (s ∷ steps) = s.operation ∷ s.left ∷ s.right ∷ bytes_of_steps steps

unfoldable pub bytes_of : SheetFile → List ℕ
bytes_of f =
    mark ++ (low_first 2 version ++ (f.n ∷ f.es ∷ length f.inputs ∷ length f.steps ∷ (bytes_of_inputs f.inputs ++ bytes_of_steps f.steps)))

-- ---- from bytes to a sheet: the fields of the head, so many words, and all that stands behind them
abbrev pub version_of : List ℕ → ℕ
version_of file = get_or file 3 0 + 256 * get_or file 4 0

abbrev pub width_of : List ℕ → ℕ
width_of file = get_or file 5 0

abbrev pub exponent_size_of : List ℕ → ℕ
exponent_size_of file = get_or file 6 0

abbrev pub input_count : List ℕ → ℕ
input_count file = get_or file 7 0

abbrev pub step_count : List ℕ → ℕ
step_count file = get_or file 8 0

unfoldable pub words_of : ℕ → List ℕ → List ℕ
words_of zero bytes = []
words_of (suc k) bytes = number_of (take word_bytes bytes) ∷ words_of k (drop word_bytes bytes)

abbrev pub inputs_part : List ℕ → List ℕ
inputs_part file = words_of (input_count file) (drop head_bytes file)

abbrev pub steps_part : List ℕ → List ℕ
steps_part file = drop (head_bytes + word_bytes * input_count file) file

unfoldable pub file_of : List ℕ → SheetFile
file_of file = record { n = width_of file; es = exponent_size_of file; inputs = inputs_part file; steps = steps_of (steps_part file) }

-- ---- the tests
unfoldable pub has_mark : List ℕ → Bool
has_mark file = eqb (get_or file 0 0) 0x52 && (eqb (get_or file 1 0) 0x53 && eqb (get_or file 2 0) 0x48)

-- 10: file shorter than 9 bytes, mark or version wrong, or wrong length
abbrev pub file_test : Bool → Test
file_test wrong = record { hit = wrong; gives = record { number = bad_file; place = 0 } }

-- 7: over 32 inputs or 64 steps
abbrev pub count_test : ℕ → ℕ → Test
count_test inputs steps = record { hit = ltb most_inputs inputs || ltb most_steps steps; gives = record { number = wrong_length; place = 0 } }

abbrev pub length_of : ℕ → ℕ → ℕ
length_of inputs steps = head_bytes + word_bytes * inputs + step_bytes * steps

-- 10 for under 9 bytes, mark, version; then 1; then 7; then 10 for length
abbrev pub file_tests : List ℕ → List Test
file_tests file =
    file_test (ltb (length file) head_bytes) ∷ file_test (not (has_mark file)) ∷ file_test (not (eqb (version_of file) version))
    ∷ format_test (width_of file) (exponent_size_of file) ∷ count_test (input_count file) (step_count file)
    ∷ file_test (not (eqb (length file) (length_of (input_count file) (step_count file)))) ∷ []

-- then the sheet; the last argument is the length of the lent column
unfoldable pub verdict_of_file : List ℕ → ℕ → Verdict
verdict_of_file file lent = first_hit (file_tests file ++ sheet_tests (width_of file) (exponent_size_of file) (inputs_part file) (steps_part file) lent)

unfoldable pub rows_of_file : List ℕ → List ℕ
rows_of_file file = let f = file_of file in rows_of f.n f.es f.inputs f.steps

-- ---- a sheet that a file can hold
pub record FileHolds (f : SheetFile) : Type 0 where
  pub format : Format f.n f.es
  pub few_inputs : length f.inputs ≤ most_inputs
  pub few_steps : length f.steps ≤ most_steps
  pub words : (row : ℕ) → get_or f.inputs row 0 < 2 ^ 64
  pub steps_bytes : Bytes (bytes_of_steps f.steps)
