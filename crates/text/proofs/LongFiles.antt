-- A file longer than any sheet file has the text of its first 458 bytes: its head decides, or its length is wrong either way.
use mathlib.Core.Path.{◌≡◌, refl, sym, ap, ◌∙◌}
use mathlib.Core.Logic.{◌≢◌}
use mathlib.Core.Bool.{true, not}
use mathlib.Core.List.{List, [], ◌∷◌}
use Prim.Native.Nat.{ℕ, zero, suc, ◌≤◌, ◌<◌}
use native.Mathlib.Decide.{dec_lt}
use native.Mathlib.Omega.{arith}
use lib.Dec.{eqb, ltb}
use lib.ListN.{length, get_or, take}
use lib.Seq.{take_all, get_or-take, length-take-le}
use borrow.Author.Tests.{le-ltb, ltb-false, ne_eqb}
use Rattle.call.specs.Verdict.{Verdict, Test, first_hit}
use Rattle.posit.specs.Refusal.{format_test}
use Rattle.call.proofs.FirstHit.{hits}
use Rattle.file.specs.File.{head_bytes, has_mark, version, version_of, width_of, exponent_size_of, input_count, step_count, length_of, file_test, count_test, file_tests, verdict_of_file}
use Rattle.sheet.specs.Refusal.{most_inputs, most_steps}
use Rattle.call.proofs.Tests.{Passing, passing_of, passing_skips, refusal_stays, Refusing, gives_none, one_refuses, head_passes, tail_passes}
use Rattle.file.proofs.FileVerdict.{file_refused}
use Rattle.call.proofs.Facts.{either_false}
use Rattle.text.specs.FileText.{most_rows, text_of_file}
use Rattle.text.specs.Text.{refusal_line}
use Rattle.text.proofs.FileTexts.{refused_text}

-- one byte more than the longest sheet file
abbrev pub enough : ℕ
enough = 458

-- ---- the tests before that of the length
abbrev head_tests : List ℕ → List Test
head_tests file =
    file_test (ltb (length file) head_bytes) ∷ file_test (not (has_mark file)) ∷ file_test (not (eqb (version_of file) version))
    ∷ format_test (width_of file) (exponent_size_of file) ∷ count_test (input_count file) (step_count file) ∷ []

head_refusing : (file : List ℕ) → Refusing (head_tests file)
head_refusing file = one_refuses refl (one_refuses refl (one_refuses refl (one_refuses refl (one_refuses refl gives_none))))

too_long : Verdict
too_long = record { number = 10; place = 0 }

-- by the number that the head comes to: too long, or the head's own refusal
settled : ℕ → Verdict → Verdict
settled zero v = too_long
settled (suc k) v = v

settled_refuses : (k : ℕ) (v : Verdict) → v.number ≡ k → (settled k v).number ≢ 0
unfolding settled too_long
settled_refuses zero v e z = absurd (omega arith)
settled_refuses (suc k) v e z = absurd (omega arith)

module _ (file : List ℕ) (long : enough ≤ length file) where
  wrong_length : Passing (head_tests file) → not (eqb (length file) (length_of (input_count file) (step_count file))) ≡ true
  wrong_length p =
      let counts = either_false (ltb most_inputs (input_count file)) _ (head_passes (tail_passes (tail_passes (tail_passes (tail_passes p))))) in
      let inputs = ltb-false most_inputs (input_count file) counts.0 in
      let steps = ltb-false most_steps (step_count file) counts.1 in
      ap not (ne_eqb (length file) (length_of (input_count file) (step_count file)) (λ e. absurd (omega arith)))

  by_head : (k : ℕ) → (first_hit (head_tests file)).number ≡ k → first_hit (file_tests file) ≡ settled k (first_hit (head_tests file))
  unfolding settled too_long
  by_head zero e =
      let p = passing_of (head_refusing file) e in
      passing_skips p _ ∙ hits _ [] (wrong_length p)
  by_head (suc k) e = refusal_stays (head_tests file) _ (λ z. absurd (omega arith))

  long_verdict : verdict_of_file file most_rows ≡ settled (first_hit (head_tests file)).number (first_hit (head_tests file))
  long_verdict =
      let own = by_head (first_hit (head_tests file)).number refl in
      file_refused file most_rows (λ z. settled_refuses _ _ refl (ap (λ (v : Verdict). v.number) (sym own) ∙ z)) ∙ own

  long_refused : (verdict_of_file file most_rows).number ≢ 0
  long_refused z = settled_refuses _ _ refl (ap (λ (v : Verdict). v.number) (sym long_verdict) ∙ z)

  cut_length : length (take enough file) ≡ enough
  cut_length = length-take-le enough file long

  same_byte : (k : ℕ) → k < enough → get_or (take enough file) k 0 ≡ get_or file k 0
  same_byte k h = get_or-take enough file k 0 h

  same_mark : has_mark (take enough file) ≡ has_mark file
  unfolding has_mark
  same_mark = cc (same_byte 0 (omega arith), same_byte 1 (omega arith), same_byte 2 (omega arith))

  same_head : head_tests (take enough file) ≡ head_tests file
  same_head =
      cc (
        le-ltb (length (take enough file)) head_bytes (omega (arith, cut_length)),
        le-ltb (length file) head_bytes (omega arith),
        same_mark,
        same_byte 3 (omega arith),
        same_byte 4 (omega arith),
        same_byte 5 (omega arith),
        same_byte 6 (omega arith),
        same_byte 7 (omega arith),
        same_byte 8 (omega arith),
      )

same_verdict : (file : List ℕ) → enough ≤ length file → verdict_of_file (take enough file) most_rows ≡ verdict_of_file file most_rows
same_verdict file long =
    long_verdict (take enough file) (omega (arith, cut_length file long))
    ∙ ap (λ (ts : List Test). settled (first_hit ts).number (first_hit ts)) (same_head file long)
    ∙ sym (long_verdict file long)

pub long_text : (file : List ℕ) → text_of_file (take enough file) ≡ text_of_file file
long_text file = by_length (dec_lt (length file) enough)
  where
    by_length : Dec (length file < enough) → text_of_file (take enough file) ≡ text_of_file file
    by_length (yes short) = ap text_of_file (take_all enough file (omega arith))
    by_length (no not_short) =
        let long : enough ≤ length file = omega arith in
        refused_text (take enough file) (long_refused (take enough file) (omega (arith, cut_length file long)))
        ∙ ap (λ (v : Verdict). refusal_line v.number v.place) (same_verdict file long)
        ∙ sym (refused_text file (long_refused file long))
