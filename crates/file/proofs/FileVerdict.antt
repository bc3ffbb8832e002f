-- The verdict of a file: a refusal of its own tests stays, one that passes them has its sheet's verdict, and it is done exactly where it is accepted.
use mathlib.Core.Path.{◌≡◌, sym, ap, ◌∙◌}
use mathlib.Core.Logic.{◌↔◌}
use mathlib.Core.List.{List}
use Prim.Native.Nat.{ℕ}
use Rattle.call.specs.Verdict.{Verdict, first_hit}
use Rattle.sheet.specs.Accepted.{SheetAccepted}
use Rattle.file.specs.Accepted.{FileAccepted}
use Rattle.file.specs.File.{width_of, exponent_size_of, inputs_part, steps_part, file_tests, verdict_of_file}
use Rattle.sheet.specs.Sheet.{verdict_of_sheet}
use Rattle.call.proofs.Tests.{Passing, Refusal, passing_skips, refusal_stays}
use Rattle.file.proofs.FileTests.{file_fits, file_passes, accepted_passes}
use Rattle.sheet.proofs.SheetVerdict.{sheet_done_exactly}

module _ (file : List ℕ) (lent : ℕ) where
  pub file_refused : Refusal (first_hit (file_tests file)) → verdict_of_file file lent ≡ first_hit (file_tests file)
  unfolding verdict_of_file
  file_refused d = refusal_stays (file_tests file) _ d

  pub file_as_sheet : Passing (file_tests file) → verdict_of_file file lent ≡ verdict_of_sheet (width_of file) (exponent_size_of file) (inputs_part file) (steps_part file) lent
  unfolding verdict_of_file verdict_of_sheet
  file_as_sheet p = passing_skips p _

  pub file_done_exactly : ((verdict_of_file file lent).number ≡ 0) ↔ FileAccepted file lent
  file_done_exactly = (there, back)
    where
      sheet : ((verdict_of_sheet (width_of file) (exponent_size_of file) (inputs_part file) (steps_part file) lent).number ≡ 0)
          ↔ SheetAccepted (width_of file) (exponent_size_of file) (inputs_part file) (steps_part file) lent
      sheet = sheet_done_exactly (width_of file) (exponent_size_of file) (inputs_part file) (steps_part file) lent

      number : Passing (file_tests file) → (verdict_of_file file lent).number ≡ (verdict_of_sheet (width_of file) (exponent_size_of file) (inputs_part file) (steps_part file) lent).number
      number p = ap (λ (v : Verdict). v.number) (file_as_sheet p)

      there : (verdict_of_file file lent).number ≡ 0 → FileAccepted file lent
      there z = let p = accepted_passes file lent z in record { fits = file_fits file p; sheet = sheet.0 (sym (number p) ∙ z) }

      back : FileAccepted file lent → (verdict_of_file file lent).number ≡ 0
      back a = number (file_passes a.fits) ∙ sheet.1 a.sheet
