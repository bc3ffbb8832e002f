-- The steps of a sheet: bytes by threes, the tests and rows of what is left, and rows that stay real ranges.
use mathlib.Core.Path.{◌≡◌, refl, sym, ap, ◌∙◌, subst}
use mathlib.Core.Bool.{true, false}
use mathlib.Core.List.{List, [], ◌∷◌, ◌++◌}
use Prim.Native.Nat.{ℕ, zero, suc, ◌+◌, ◌*◌, ◌/◌, ◌≤◌, ◌<◌}
use native.Mathlib.Nat.{add-zero, add-suc, suc-add, not-suc-le-zero, le_of_suc-le-suc}
use native.Mathlib.Numerals.{add-one}
use native.Mathlib.Omega.{arith}
use lib.Dec.{leb}
use lib.ListN.{length, get_or, drop, drop_of_length-le, length-append}
use lib.Seq.{drop-cons, get_or-drop, get_or-take}
use borrow.Author.Tests.{leb-false, ltb-false, le-ltb, le-leb, lt-leb}
use Rattle.std.specs.Simd.{first_chunks}
use Rattle.posit.specs.Format.{Format}
use Rattle.call.specs.Verdict.{Test, first_hit, done, refused}
use Rattle.call.proofs.FirstHit.{none_hits}
use Rattle.call.specs.declared.refusal.Refusal.{Refusal}
use Rattle.word.specs.Member.{Real}
use Rattle.word.proofs.Computed.{answer_real}
use Rattle.word.specs.Refusal.{word_tests}
use Rattle.sheet.specs.Refusal.{earlier_test}
use Rattle.sheet.specs.Accepted.{StepFits}
use Rattle.sheet.specs.Sheet.{Step, steps_of, answer_of_step, with_row, rows_of, inputs_tests, step_tests, steps_tests}
use Rattle.sheet.specs.Working.{Reals}
use Rattle.call.proofs.Tests.{Passing, all_pass, one_passes, Refusing, gives_none, one_refuses, gives_both, passing_parts, passing_skips, head_passes, tail_passes}
use Rattle.call.proofs.Blocks.{joined, joined_same}
use Rattle.column.proofs.Pairs.{divisor_clear, divisor_clears}
use Rattle.call.proofs.Said.{refused_first}
use Rattle.word.proofs.WordTests.{word_refusing, passing_real}
use Rattle.call.proofs.Facts.{either_true, either_false}
use Rattle.sheet.proofs.Chunks.{chunk_at}

-- ---- inputs
module _ (n : ℕ) where
  pub inputs_refusing : (row : ℕ) (inputs : List ℕ) → Refusing (inputs_tests n row inputs)
  unfolding inputs_tests
  inputs_refusing row [] = gives_none
  inputs_refusing row (w ∷ inputs) = gives_both (word_refusing n row w) (inputs_refusing (suc row) inputs)

  pub inputs_next : (i : ℕ) (inputs : List ℕ) → i < length inputs → inputs_tests n i (drop i inputs) ≡ word_tests n i (get_or inputs i 0) ++ inputs_tests n (i + 1) (drop (i + 1) inputs)
  unfolding inputs_tests
  inputs_next i inputs h = rw (add-one i, drop-cons inputs i 0 h, inputs_tests)

  pub inputs_end : (i : ℕ) (inputs : List ℕ) → length inputs ≤ i → inputs_tests n i (drop i inputs) ≡ []
  unfolding inputs_tests
  inputs_end i inputs h = rw (drop_of_length-le inputs h)

  -- the tests of all inputs, input by input
  pub inputs_joined : (row : ℕ) (inputs : List ℕ) → inputs_tests n row inputs ≡ joined (λ k. word_tests n (row + k) (get_or inputs k 0)) (length inputs)
  unfolding inputs_tests joined
  inputs_joined row [] = refl
  inputs_joined row (w ∷ inputs) =
      ap (λ (k : ℕ). word_tests n k w ++ inputs_tests n (suc row) inputs) (sym (add-zero row))
      ∙ ap (λ (ts : List Test). word_tests n (row + 0) w ++ ts)
      (inputs_joined (suc row) inputs
      ∙ joined_same (length inputs) (λ k h. ap (λ (m : ℕ). word_tests n m (get_or inputs k 0)) (suc-add row k ∙ sym (add-suc row k))))

  pub inputs_real : (place : ℕ) (inputs : List ℕ) → Passing (inputs_tests n place inputs) → Reals n inputs
  unfolding inputs_tests
  inputs_real place [] p row h = absurd (not-suc-le-zero h)
  inputs_real place (w ∷ inputs) p zero h = passing_real n place w (passing_parts (word_tests n place w) p).0
  inputs_real place (w ∷ inputs) p (suc row) h = inputs_real (suc place) inputs (passing_parts (word_tests n place w) p).1 row (le_of_suc-le-suc h)

-- ---- 8
module _ {k row : ℕ} (left right : ℕ) (e : k ≡ row) where
  pub left_not_earlier : row ≤ left → (earlier_test k left right).hit ≡ true
  left_not_earlier h = rw (e, le-leb row left h)

  pub right_not_earlier : row ≤ right → (earlier_test k left right).hit ≡ true
  right_not_earlier h = either_true (leb k left) _ (rw (e, le-leb row right h))

  pub both_earlier : left < row → right < row → (earlier_test k left right).hit ≡ false
  both_earlier h j = rw (e, lt-leb row left h, lt-leb row right j)

-- ---- a step that passes
pub step_refusing : (n es : ℕ) (rows : List ℕ) (s : Step) → Refusing (step_tests n es rows s)
step_refusing n es rows s = one_refuses refl (one_refuses refl (one_refuses refl gives_none))

pub step_fits : {n es : ℕ} {rows : List ℕ} {s : Step} → Passing (step_tests n es rows s) → StepFits n es rows s
step_fits {n} {es} {rows} {s} p =
    let both = either_false (leb (length rows) s.left) (leb (length rows) s.right) (head_passes (tail_passes p)) in
    record {
      operation = ltb-false 3 s.operation (head_passes p);
      left_earlier = leb-false (length rows) s.left both.0;
      right_earlier = leb-false (length rows) s.right both.1;
      divisor = λ d. divisor_clear n es (length rows) s.operation (get_or rows s.right 0) d (head_passes (tail_passes (tail_passes p)));
    }

pub fits_step : {n es : ℕ} {rows : List ℕ} {s : Step} → StepFits n es rows s → Passing (step_tests n es rows s)
fits_step {n} {es} {rows} {s} f =
    one_passes (le-ltb 3 s.operation f.operation)
    (one_passes (both_earlier s.left s.right refl f.left_earlier f.right_earlier)
    (one_passes (divisor_clears n es (length rows) s.operation (get_or rows s.right 0) f.divisor) all_pass))

pub steps_refusing : (n es : ℕ) (rows : List ℕ) (steps : List Step) → Refusing (steps_tests n es rows steps)
unfolding steps_tests
steps_refusing n es rows [] = gives_none
steps_refusing n es rows (s ∷ steps) = gives_both (step_refusing n es rows s) (steps_refusing n es (with_row n es rows s) steps)

-- ---- rows that are real ranges
pub length_with_row : (n es : ℕ) (rows : List ℕ) (s : Step) → length (with_row n es rows s) ≡ length rows + 1
length_with_row n es rows s = length-append rows (answer_of_step n es rows s ∷ [])

pub reals_more : {n : ℕ} (rows : List ℕ) {w : ℕ} → Reals n rows → Real n w → Reals n (rows ++ w ∷ [])
reals_more [] rs r zero h = r
reals_more [] rs r (suc row) h = absurd (not-suc-le-zero (le_of_suc-le-suc h))
reals_more (v ∷ rows) rs r zero h = rs zero (omega arith)
reals_more (v ∷ rows) rs r (suc row) h = reals_more rows (λ k j. rs (suc k) (omega arith)) r row (le_of_suc-le-suc h)

pub row_real : {n es : ℕ} {rows : List ℕ} {s : Step} → Format n es → StepFits n es rows s → Real n (answer_of_step n es rows s)
row_real {n} {es} {s = s} f fit = answer_real n es s.operation _ _ f.wide_enough fit.operation

-- ---- bytes by threes
byte_next : (bytes : List ℕ) (at : ℕ) {next : ℕ} → at < length bytes → suc at ≡ next → drop at bytes ≡ get_or bytes at 0 ∷ drop next bytes
byte_next bytes at h e = subst (λ (k : ℕ). drop at bytes ≡ get_or bytes at 0 ∷ drop k bytes) e (drop-cons bytes at 0 h)

bytes_next : (at : ℕ) (bytes : List ℕ) → at + 2 < length bytes
    → steps_of (drop at bytes) ≡ record { operation = get_or bytes at 0; left = get_or bytes (at + 1) 0; right = get_or bytes (at + 2) 0 } ∷ steps_of (drop (at + 3) bytes)
unfolding steps_of
bytes_next at bytes h =
    ap steps_of
    (byte_next bytes at {next = at + 1} (omega arith) (omega arith)
    ∙ ap (λ (l : List ℕ). get_or bytes at 0 ∷ l)
    (byte_next bytes (at + 1) {next = at + 2} (omega arith) (omega arith)
    ∙ ap (λ (l : List ℕ). get_or bytes (at + 1) 0 ∷ l) (byte_next bytes (at + 2) {next = at + 3} h (omega arith))))

-- the step of three bytes
abbrev pub step_of : List ℕ → Step
step_of triple = record { operation = get_or triple 0 0; left = get_or triple 1 0; right = get_or triple 2 0 }

step_at : (k : ℕ) (bytes : List ℕ) → k < length bytes / 3
    → step_of (get_or (first_chunks 3 (length bytes / 3) bytes) k []) ≡ record { operation = get_or bytes (3 * k) 0; left = get_or bytes (3 * k + 1) 0; right = get_or bytes (3 * k + 2) 0 }
step_at k bytes h =
    let byte = λ (i : ℕ) (b : i < 3). get_or-take 3 (drop (3 * k) bytes) i 0 b ∙ get_or-drop (3 * k) bytes i 0 in
    rw (chunk_at 3 k (length bytes / 3) bytes h, byte 0 (omega arith), byte 1 (omega arith), byte 2 (omega arith), add-zero)

pub steps_next : (k : ℕ) (bytes : List ℕ) → k < length bytes / 3
    → steps_of (drop (3 * k) bytes) ≡ step_of (get_or (first_chunks 3 (length bytes / 3) bytes) k []) ∷ steps_of (drop (3 * (k + 1)) bytes)
steps_next k bytes h =
    let there : 3 * k + 2 < length bytes = omega arith in
    let more : 3 * k + 3 ≡ 3 * (k + 1) = omega arith in
    bytes_next (3 * k) bytes there
    ∙ ap (λ (j : ℕ). record { operation = get_or bytes (3 * k) 0; left = get_or bytes (3 * k + 1) 0; right = get_or bytes (3 * k + 2) 0 } ∷ steps_of (drop j bytes)) more
    ∙ ap (λ (s : Step). s ∷ steps_of (drop (3 * (k + 1)) bytes)) (sym (step_at k bytes h))

pub steps_end : (at : ℕ) (bytes : List ℕ) → length bytes ≤ at → steps_of (drop at bytes) ≡ []
unfolding steps_of
steps_end at bytes h = rw (drop_of_length-le bytes h)

-- ---- what is left of a sheet: with these rows worked, these steps come to what all steps come to from the start
pub record Working (n es : ℕ) (start : List ℕ) (all : List Step) (rows : List ℕ) (left : List Step) : Type 0 where
  pub verdict : first_hit (steps_tests n es start all) ≡ first_hit (steps_tests n es rows left)
  pub rows_come : rows_of n es start all ≡ rows_of n es rows left
  pub real : Reals n rows

module _ {n es : ℕ} {start : List ℕ} {all : List Step} where
  pub working_none : Reals n start → Working n es start all start all
  working_none r = record { verdict = refl; rows_come = refl; real = r }

  pub working_one : {rows : List ℕ} {s : Step} {left : List Step} → Format n es → Working n es start all rows (s ∷ left)
      → Passing (step_tests n es rows s) → Working n es start all (with_row n es rows s) left
  unfolding steps_tests rows_of
  working_one {rows} {s} {left} f w p =
      record {
        verdict = w.verdict ∙ passing_skips p (steps_tests n es (with_row n es rows s) left);
        rows_come = w.rows_come;
        real = reals_more rows w.real (row_real {rows = rows} {s = s} f (step_fits {n = n} {es = es} {rows = rows} {s = s} p));
      }

  pub working_refused : {rows : List ℕ} {s : Step} {left : List Step} (e : Refusal) → Working n es start all rows (s ∷ left)
      → first_hit (step_tests n es rows s) ≡ refused e → first_hit (steps_tests n es start all) ≡ refused e
  unfolding steps_tests
  working_refused {rows} {s} {left} e w v = w.verdict ∙ refused_first (step_tests n es rows s) (steps_tests n es (with_row n es rows s) left) e v

  pub working_all : {rows : List ℕ} → Working n es start all rows [] → (first_hit (steps_tests n es start all) ≡ done) × (rows_of n es start all ≡ rows)
  unfolding steps_tests rows_of
  working_all w = (w.verdict ∙ none_hits, w.rows_come)
