-- The text of a file by its verdict: the refusal's line, or the lines of at most 96 rows.
use mathlib.Core.Path.{◌≡◌, refl, sym, ap, ◌∙◌}
use mathlib.Core.Logic.{◌≢◌}
use mathlib.Core.List.{List}
use Prim.Native.Nat.{ℕ, zero, suc, ◌+◌, ◌≤◌}
use native.Mathlib.Omega.{arith}
use lib.ListN.{length, take, drop, length-append}
use lib.Seq.{take_at}
use Rattle.file.specs.File.{width_of, exponent_size_of, inputs_part, steps_part, file_of, verdict_of_file, rows_of_file}
use Rattle.sheet.specs.Sheet.{steps_of}
use Rattle.file.specs.Accepted.{FileAccepted}
use Rattle.std.specs.Prelude.{Ok}
use Rattle.call.specs.Written.{Writes, later_of}
use Rattle.call.proofs.Answered.{accepts}
use Rattle.file.proofs.FileVerdict.{file_done_exactly}
use Rattle.sheet.proofs.Rows.{length_rows, length_steps}
use Rattle.text.specs.FileText.{most_rows, text_of_file, Leaves}
use Rattle.text.specs.Text.{text_of, refusal_line, row_lines}

-- ---- a text at the front of the lent bytes
module _ {text before after : List ℕ} {count : ℕ} (l : Leaves text before after count) where
  pub text_in_front : take count after ≡ text
  text_in_front = ap (take count) l.later ∙ take_at text (drop count before) count (sym l.counted)

  pub text_within : count ≤ length after
  text_within = omega (arith, l.counted, ap length l.later, length-append text (drop count before))

-- ---- by the number
of_refusal : (n number place : ℕ) (rows : List ℕ) → number ≢ 0 → text_of n number place rows ≡ refusal_line number place
unfolding text_of
of_refusal n zero place rows d = absurd (d refl)
of_refusal n (suc k) place rows d = refl

module _ (file : List ℕ) where
  pub refused_text : (verdict_of_file file most_rows).number ≢ 0 → text_of_file file ≡ refusal_line (verdict_of_file file most_rows).number (verdict_of_file file most_rows).place
  unfolding text_of_file
  refused_text d = of_refusal (width_of file) (verdict_of_file file most_rows).number (verdict_of_file file most_rows).place (rows_of_file file) d

  module _ (done : (verdict_of_file file most_rows).number ≡ 0) where
    pub done_text : text_of_file file ≡ row_lines (width_of file) 0 (rows_of_file file)
    unfolding text_of_file text_of
    done_text = ap (λ (number : ℕ). text_of (width_of file) number (verdict_of_file file most_rows).place (rows_of_file file)) done

    pub accepted : FileAccepted file most_rows
    accepted = (file_done_exactly file most_rows).0 done

    pub few_rows : length (rows_of_file file) ≤ most_rows
    unfolding rows_of_file file_of
    few_rows =
        omega
        (arith, length_rows (width_of file) (exponent_size_of file) (inputs_part file) (steps_of (steps_part file)), length_steps (steps_part file), accepted.sheet.fits.room)

-- ---- the rows that were worked into a column
module _ (file : List ℕ) {before after : List ℕ} (count : ℕ) (w : Writes (verdict_of_file file most_rows) 0 (rows_of_file file) before after (Ok count)) where
  pub was_done : (verdict_of_file file most_rows).number ≡ 0
  was_done = accepts w.count.0

  pub rows_counted : count ≡ length (rows_of_file file)
  rows_counted = w.count.1

  pub rows_in_front : take count after ≡ rows_of_file file
  rows_in_front =
      ap (take count) (w.later ∙ ap (λ (number : ℕ). later_of number 0 (rows_of_file file) before) was_done)
      ∙ take_at (rows_of_file file) (drop (0 + length (rows_of_file file)) before) count (sym rows_counted)
