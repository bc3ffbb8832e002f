-- What a file call has, in full, exactly where it is done.
use Rattle.std.specs.Prelude.{◌≡◌, List, ℕ, ◌≤◌, length, get_or}
use Rattle.posit.specs.Format.{Format}
use Rattle.sheet.specs.Refusal.{most_inputs, most_steps}
use Rattle.file.specs.File.{head_bytes, version, version_of, width_of, exponent_size_of, input_count, step_count, length_of, inputs_part, steps_part}
use Rattle.sheet.specs.Accepted.{SheetAccepted}

-- the head, the counts and the length, and then the sheet
pub record FileFits (file : List ℕ) : Type 0 where
  pub head : head_bytes ≤ length file
  pub mark_first : get_or file 0 0 ≡ 0x52
  pub mark_second : get_or file 1 0 ≡ 0x53
  pub mark_third : get_or file 2 0 ≡ 0x48
  pub version_one : version_of file ≡ version
  pub format : Format (width_of file) (exponent_size_of file)
  pub few_inputs : input_count file ≤ most_inputs
  pub few_steps : step_count file ≤ most_steps
  pub whole : length file ≡ length_of (input_count file) (step_count file)

pub record FileAccepted (file : List ℕ) (lent : ℕ) : Type 0 where
  pub fits : FileFits file
  pub sheet : SheetAccepted (width_of file) (exponent_size_of file) (inputs_part file) (steps_part file) lent
