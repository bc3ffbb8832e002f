-- A sheet and its file: the bytes of a sheet give the sheet, the sheet of a file gives its bytes, and so one sheet has one file.
use mathlib.Core.Path.{◌≡◌, refl, sym, ap, ◌∙◌}
use mathlib.Core.Bool.{not}
use mathlib.Core.List.{List, ◌∷◌, ◌++◌}
use Prim.Native.Nat.{ℕ, suc, ◌+◌, ◌*◌, ◌≤◌, ◌<◌}
use native.Mathlib.Omega.{arith}
use lib.ListN.{length, get_or, take, drop, length-drop, length-append, take-append-drop}
use lib.Seq.{drop_at, drop-cons, drop-drop}
use borrow.Author.Tests.{le-ltb, eq-eqb}
use Rattle.file.specs.File.{SheetFile, FileHolds, Bytes, head_bytes, word_bytes, low_first, bytes_of_inputs, bytes_of_steps, bytes_of, input_count, step_count, inputs_part, steps_part, file_of, has_mark, length_of, count_test, file_tests, verdict_of_file}
use Rattle.sheet.specs.Refusal.{most_inputs, most_steps}
use Rattle.sheet.specs.Sheet.{Step, steps_of}
use Rattle.file.specs.Accepted.{FileFits}
use Rattle.call.proofs.Tests.{Passing, all_pass, one_passes}
use Rattle.posit.proofs.Verdicts.{format_clear}
use Rattle.file.proofs.FileTests.{file_fits, accepted_passes}
use Rattle.file.proofs.LowFirst.{one_byte}
use Rattle.file.proofs.Parts.{bytes_from, bytes_both, inputs_bytes, words_fit, length_words, length_inputs, words_of_inputs, inputs_of_words, length_steps, steps_of_bytes, bytes_of_steps_says}

-- ---- from a sheet to its bytes and back
pub file_of_bytes : (f : SheetFile) → FileHolds f → file_of (bytes_of f) ≡ f
unfolding file_of bytes_of low_first
file_of_bytes f holds =
    let inputs : inputs_part (bytes_of f) ≡ f.inputs = words_of_inputs f.inputs (bytes_of_steps f.steps) holds.words in
    let steps : steps_part (bytes_of f) ≡ bytes_of_steps f.steps =
    sym (drop-drop (word_bytes * length f.inputs) head_bytes (bytes_of f))
    ∙ drop_at (bytes_of_inputs f.inputs) (bytes_of_steps f.steps) (word_bytes * length f.inputs) (length_inputs f.inputs) in
    ap (λ (ws : List ℕ). record { n = f.n; es = f.es; inputs = ws; steps = steps_of (steps_part (bytes_of f)) }) inputs
    ∙ ap (λ (l : List ℕ). record { n = f.n; es = f.es; inputs = f.inputs; steps = steps_of l }) steps
    ∙ ap (λ (l : List Step). record { n = f.n; es = f.es; inputs = f.inputs; steps = l }) (steps_of_bytes f.steps)

-- ---- from bytes to a sheet and back
-- a file of nine bytes or more begins with nine bytes
nine : (file : List ℕ) → head_bytes ≤ length file
    → file ≡ get_or file 0 0 ∷ get_or file 1 0 ∷ get_or file 2 0 ∷ get_or file 3 0 ∷ get_or file 4 0 ∷ get_or file 5 0 ∷ get_or file 6 0 ∷ get_or file 7 0 ∷ get_or file 8 0 ∷ drop 9 file
nine file fits =
    one 0 (omega arith)
    (one 1 (omega arith)
    (one 2 (omega arith)
    (one 3 (omega arith) (one 4 (omega arith) (one 5 (omega arith) (one 6 (omega arith) (one 7 (omega arith) (one 8 (omega arith) refl))))))))
  where
    one : (at : ℕ) → at < length file → {more : List ℕ} → drop (suc at) file ≡ more → drop at file ≡ get_or file at 0 ∷ more
    one at h e = drop-cons file at 0 h ∙ ap (λ (l : List ℕ). get_or file at 0 ∷ l) e

module _ (file : List ℕ) (bytes : Bytes file) (fits : FileFits file) where
  abbrev k : ℕ
  k = input_count file

  steps_long : length (steps_part file) ≡ 3 * step_count file
  steps_long = length-drop (head_bytes + word_bytes * k) file ∙ omega (arith, fits.whole)

  behind_head : bytes_of_inputs (inputs_part file) ++ bytes_of_steps (steps_of (steps_part file)) ≡ drop head_bytes file
  behind_head =
      let all = drop head_bytes file in
      ap (λ (l : List ℕ). l ++ bytes_of_steps (steps_of (steps_part file)))
      (inputs_of_words k all (bytes_from head_bytes bytes) (omega (arith, length-drop head_bytes file, fits.whole)))
      ∙ ap (λ (l : List ℕ). take (word_bytes * k) all ++ l)
      ((bytes_of_steps_says (step_count file) (steps_part file) steps_long).0 ∙ sym (drop-drop (word_bytes * k) head_bytes file))
      ∙ take-append-drop (word_bytes * k) all

pub bytes_of_file : (file : List ℕ) → Bytes file → Passing (file_tests file) → bytes_of (file_of file) ≡ file
unfolding file_of bytes_of low_first
bytes_of_file file bytes passing =
    let f = file_fits file passing in
    let e0 = f.mark_first in
    let e1 = f.mark_second in
    let e2 = f.mark_third in
    let e3 : get_or file 3 0 ≡ 1 = omega (arith, f.version_one) in
    let e4 : get_or file 4 0 ≡ 0 = omega (arith, f.version_one) in
    let e7 : length (inputs_part file) ≡ get_or file 7 0 = length_words (input_count file) (drop head_bytes file) in
    let e8 : length (steps_of (steps_part file)) ≡ get_or file 8 0 = (bytes_of_steps_says (step_count file) (steps_part file) (steps_long file bytes f)).1 in
    let rest = behind_head file bytes f in
    let all = nine file f.head in
    cc

-- ---- files that pass their own tests and sheets that a file can hold are one to one
pub bytes_are_bytes : (f : SheetFile) → FileHolds f → Bytes (bytes_of f)
unfolding bytes_of low_first
bytes_are_bytes f holds =
    one_byte (omega arith)
    (one_byte (omega arith)
    (one_byte (omega arith)
    (one_byte (omega arith)
    (one_byte (omega arith)
    (one_byte (omega (arith, holds.format.not_too_wide))
    (one_byte (omega (arith, holds.format.exponent_fits))
    (one_byte (omega (arith, holds.few_inputs))
    (one_byte (omega (arith, holds.few_steps))
    (bytes_both (bytes_of_inputs f.inputs) (inputs_bytes f.inputs) holds.steps_bytes)))))))))

pub bytes_pass : (f : SheetFile) → FileHolds f → Passing (file_tests (bytes_of f))
unfolding bytes_of low_first has_mark
bytes_pass f holds =
    let long : length (bytes_of f) ≡ length_of (length f.inputs) (length f.steps) =
    omega (arith, length-append (bytes_of_inputs f.inputs) (bytes_of_steps f.steps), length_inputs f.inputs, length_steps f.steps) in
    one_passes (le-ltb (length (bytes_of f)) head_bytes (omega arith))
    (one_passes refl
    (one_passes refl
    (one_passes (format_clear holds.format)
    (one_passes {t = count_test (length f.inputs) (length f.steps)} (rw (le-ltb most_inputs (length f.inputs) holds.few_inputs, le-ltb most_steps (length f.steps) holds.few_steps))
    (one_passes (ap not (eq-eqb (length (bytes_of f)) _ long)) all_pass)))))

pub file_holds : (file : List ℕ) → Bytes file → Passing (file_tests file) → FileHolds (file_of file)
unfolding file_of
file_holds file bytes passing =
    let f = file_fits file passing in
    let steps = bytes_of_steps_says (step_count file) (steps_part file) (steps_long file bytes f) in
    record {
      format = f.format;
      few_inputs = omega (arith, length_words (input_count file) (drop head_bytes file), f.few_inputs);
      few_steps = omega (arith, steps.1, f.few_steps);
      words = words_fit (input_count file) (drop head_bytes file) (bytes_from head_bytes bytes) (omega (arith, length-drop head_bytes file, f.whole));
      steps_bytes = rw steps.0 (bytes_from (head_bytes + word_bytes * input_count file) bytes);
    }

-- ---- two accepted files that hold the same are the same bytes
pub same_meaning_same_bytes : (a b : List ℕ) (lent lent' : ℕ) → Bytes a → Bytes b → (verdict_of_file a lent).number ≡ 0 → (verdict_of_file b lent').number ≡ 0
    → file_of a ≡ file_of b → a ≡ b
same_meaning_same_bytes a b lent lent' bytes_a bytes_b done_a done_b same =
    sym (bytes_of_file a bytes_a (accepted_passes a lent done_a)) ∙ ap bytes_of same ∙ bytes_of_file b bytes_b (accepted_passes b lent' done_b)
