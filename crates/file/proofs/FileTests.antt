-- The file's own tests: each refuses, and a file that passes them has its head, its counts and its length.
use mathlib.Core.Path.{◌≡◌, refl, sym, ap, subst}
use mathlib.Core.Bool.{not}
use mathlib.Core.List.{List}
use Prim.Native.Nat.{ℕ, ◌-◌}
use native.Mathlib.Omega.{arith}
use lib.Dec.{eqb, ltb}
use lib.ListN.{length, get_or, take, drop, length-drop}
use lib.Seq.{take_all}
use borrow.Author.Tests.{le-ltb, eq-eqb, ltb-false, eqb-true, not-false}
use Rattle.posit.specs.Format.{is_format}
use Rattle.call.specs.Verdict.{Verdict, first_hit}
use Rattle.posit.proofs.Verdicts.{format_of, format_clear}
use Rattle.file.specs.File.{has_mark, version, version_of, width_of, exponent_size_of, input_count, step_count, head_bytes, length_of, file_test, count_test, inputs_part, steps_part, file_of, file_tests, verdict_of_file, rows_of_file}
use Rattle.sheet.specs.Refusal.{most_inputs, most_steps}
use Rattle.sheet.specs.Sheet.{steps_of, rows_of, sheet_tests, verdict_of_sheet}
use Rattle.call.specs.Written.{Writes}
use Rattle.std.specs.Prelude.{Result}
use Rattle.call.specs.declared.refusal.Refusal.{Refusal}
use Rattle.file.specs.Accepted.{FileFits}
use Rattle.call.proofs.Tests.{Passing, all_pass, one_passes, Refusing, gives_none, one_refuses, head_passes, tail_passes, passing_skips, first_passes}
use Rattle.call.proofs.Facts.{either_false, both_parts}

pub file_refusing : (file : List ℕ) → Refusing (file_tests file)
file_refusing file = one_refuses refl (one_refuses refl (one_refuses refl (one_refuses refl (one_refuses refl (one_refuses refl gives_none)))))

-- ---- what passes, and back
pub file_fits : (file : List ℕ) → Passing (file_tests file) → FileFits file
unfolding has_mark
file_fits file p =
    let at_version = tail_passes (tail_passes p) in
    let at_counts = tail_passes (tail_passes at_version) in
    let mark = both_parts (eqb (get_or file 0 0) 0x52) _ (not-false (has_mark file) (head_passes (tail_passes p))) in
    let marks = both_parts (eqb (get_or file 1 0) 0x53) _ mark.1 in
    let counts = either_false (ltb most_inputs (input_count file)) _ (head_passes at_counts) in
    record {
      head = ltb-false (length file) head_bytes (head_passes p);
      mark_first = eqb-true (get_or file 0 0) 0x52 mark.0;
      mark_second = eqb-true (get_or file 1 0) 0x53 marks.0;
      mark_third = eqb-true (get_or file 2 0) 0x48 marks.1;
      version_one = eqb-true (version_of file) version (not-false (eqb (version_of file) version) (head_passes at_version));
      format = format_of (not-false (is_format (width_of file) (exponent_size_of file)) (head_passes (tail_passes at_version)));
      few_inputs = ltb-false most_inputs (input_count file) counts.0;
      few_steps = ltb-false most_steps (step_count file) counts.1;
      whole = eqb-true (length file) _ (not-false (eqb (length file) (length_of (input_count file) (step_count file))) (head_passes (tail_passes at_counts)));
    }

pub file_passes : {file : List ℕ} → FileFits file → Passing (file_tests file)
unfolding has_mark
file_passes {file} f =
    one_passes (le-ltb (length file) head_bytes f.head)
    (one_passes {t = file_test (not (has_mark file))} (rw (f.mark_first, f.mark_second, f.mark_third))
    (one_passes (ap not (eq-eqb (version_of file) version f.version_one))
    (one_passes (format_clear f.format)
    (one_passes {t = count_test (input_count file) (step_count file)} (rw (le-ltb most_inputs (input_count file) f.few_inputs, le-ltb most_steps (step_count file) f.few_steps))
    (one_passes (ap not (eq-eqb (length file) _ f.whole)) all_pass)))))

-- an accepted file passes them
pub accepted_passes : (file : List ℕ) (lent : ℕ) → (verdict_of_file file lent).number ≡ 0 → Passing (file_tests file)
unfolding verdict_of_file
accepted_passes file lent z = first_passes (file_refusing file) _ z

-- ---- a file that passes them comes to what its sheet comes to
pub all_behind : (k : ℕ) (l : List ℕ) → take (length l - k) (drop k l) ≡ drop k l
all_behind k l = take_all (length l - k) (drop k l) (omega (arith, length-drop k l))

module _ (file inputs steps before after : List ℕ) (r : Result ℕ Refusal) where
  pub writes_file : Passing (file_tests file) → inputs ≡ inputs_part file → steps ≡ steps_part file
      → Writes (verdict_of_sheet (width_of file) (exponent_size_of file) inputs steps (length before)) 0 (rows_of (width_of file) (exponent_size_of file) inputs (steps_of steps)) before after r
      → Writes (verdict_of_file file (length before)) 0 (rows_of_file file) before after r
  unfolding verdict_of_file verdict_of_sheet rows_of_file file_of
  writes_file p same_inputs same_steps w =
      let n = width_of file in
      let es = exponent_size_of file in
      subst (λ (v : Verdict). Writes v 0 (rows_of n es (inputs_part file) (steps_of (steps_part file))) before after r) (sym (passing_skips p _))
      (subst (λ (l : List ℕ). Writes (first_hit (sheet_tests n es (inputs_part file) l (length before))) 0 (rows_of n es (inputs_part file) (steps_of l)) before after r) same_steps
      (subst (λ (l : List ℕ). Writes (first_hit (sheet_tests n es l steps (length before))) 0 (rows_of n es l (steps_of steps)) before after r) same_inputs w))
