-- The text of a sheet file: what `sheetrows` prints for the bytes that arrived.
use Rattle.std.specs.Prelude.{◌≡◌, List, ◌++◌, ℕ, ◌+◌, length, drop}
use Rattle.sheet.specs.Refusal.{most_inputs, most_steps}
use Rattle.file.specs.File.{width_of, verdict_of_file, rows_of_file}
use Rattle.text.specs.Text.{text_of}

-- room for the longest sheet
abbrev pub most_rows : ℕ
most_rows = most_inputs + most_steps

unfoldable pub text_of_file : List ℕ → List ℕ
text_of_file file = let v = verdict_of_file file most_rows in text_of (width_of file) v.number v.place (rows_of_file file)

-- a text stands at the front of the lent bytes, and the rest of them is as it was
pub record Leaves (text before after : List ℕ) (count : ℕ) : Type 0 where
  pub counted : count ≡ length text
  pub later : after ≡ text ++ drop count before
