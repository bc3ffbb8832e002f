-- The parts behind a file's head: inputs as words and steps, from their bytes and back.
use mathlib.Core.Path.{◌≡◌, refl, sym, ap, ◌∙◌}
use mathlib.Core.List.{List, [], ◌∷◌, ◌++◌, append_assoc}
use Prim.Native.Nat.{ℕ, zero, suc, ◌+◌, ◌*◌, ◌^◌, ◌≤◌, ◌<◌}
use native.Mathlib.Numerals.{add-one}
use native.Mathlib.Omega.{arith}
use lib.ListN.{length, get_or, take, drop, length-append, length-drop}
use lib.Seq.{length-take-le, take_at, drop_at, take-add, drop-drop, take-take, get_or-drop}
use Rattle.std.proofs.lemmas.List.{drop-take}
use Rattle.file.specs.File.{Bytes, word_bytes, low_first, number_of, bytes_of_inputs, bytes_of_steps, words_of}
use Rattle.sheet.specs.Refusal.{step_bytes}
use Rattle.sheet.specs.Sheet.{Step, steps_of}
use Rattle.file.proofs.LowFirst.{no_byte, one_byte, bytes_behind, number_below, length_low, low_bytes, number_of_low, low_of_number}

-- ---- parts of bytes are bytes
pub bytes_from : (k : ℕ) {bytes : List ℕ} → Bytes bytes → Bytes (drop k bytes)
bytes_from k {bytes} h = record { below = λ at. rw get_or-drop (h.below (k + at)) }

pub bytes_first : (k : ℕ) (bytes : List ℕ) → Bytes bytes → Bytes (take k bytes)
bytes_first zero bytes h = no_byte
bytes_first (suc k) [] h = no_byte
bytes_first (suc k) (byte ∷ bytes) h = one_byte (h.below 0) (bytes_first k bytes (bytes_behind h))

pub bytes_both : (bytes : List ℕ) {behind : List ℕ} → Bytes bytes → Bytes behind → Bytes (bytes ++ behind)
bytes_both [] h more = more
bytes_both (byte ∷ bytes) h more = one_byte (h.below 0) (bytes_both bytes (bytes_behind h) more)

-- ---- the word of the first eight bytes
word_fits : (bytes : List ℕ) → word_bytes ≤ length bytes → Bytes bytes → number_of (take word_bytes bytes) < 2 ^ 64
word_fits bytes fits h =
    omega (arith, number_below (take 8 bytes) (bytes_first 8 bytes h), ap (λ (k : ℕ). 256 ^ k) (length-take-le 8 bytes fits))

-- ---- words
pub length_words : (k : ℕ) (bytes : List ℕ) → length (words_of k bytes) ≡ k
unfolding words_of
length_words zero bytes = refl
length_words (suc k) bytes = ap suc (length_words k (drop word_bytes bytes))

-- one word more is the number of the next eight bytes
words_then : (k : ℕ) (bytes : List ℕ) → words_of (suc k) bytes ≡ words_of k bytes ++ number_of (take 8 (drop (8 * k) bytes)) ∷ []
unfolding words_of
words_then zero bytes = refl
words_then (suc k) bytes =
    let further : 8 + 8 * k ≡ 8 * suc k = omega arith in
    ap (λ (l : List ℕ). number_of (take 8 bytes) ∷ l)
    (words_then k (drop 8 bytes)
    ∙ ap (λ (l : List ℕ). words_of k (drop 8 bytes) ++ number_of (take 8 l) ∷ []) (drop-drop (8 * k) 8 bytes ∙ ap (λ (m : ℕ). drop m bytes) further))

pub words_more : (k : ℕ) (bytes : List ℕ) → words_of (k + 1) bytes ≡ words_of k bytes ++ number_of (take 8 (drop (8 * k) bytes)) ∷ []
words_more k bytes = ap (λ (m : ℕ). words_of m bytes) (add-one k) ∙ words_then k bytes

-- bytes behind the last word are not read
pub words_front : (k : ℕ) (bytes : List ℕ) → words_of k (take (8 * k) bytes) ≡ words_of k bytes
unfolding words_of
words_front zero bytes = refl
words_front (suc k) bytes =
    let further : 8 + 8 * k ≡ 8 * suc k = omega arith in
    ap (λ (m : ℕ). words_of (suc k) (take m bytes)) (sym further)
    ∙ ap (λ (l : List ℕ). number_of l ∷ words_of k (drop 8 (take (8 + 8 * k) bytes))) (take-take 8 (8 + 8 * k) bytes (omega arith))
    ∙ ap (λ (l : List ℕ). number_of (take 8 bytes) ∷ words_of k l) (drop-take 8 (8 * k) bytes)
    ∙ ap (λ (l : List ℕ). number_of (take 8 bytes) ∷ l) (words_front k (drop 8 bytes))

pub length_inputs : (inputs : List ℕ) → length (bytes_of_inputs inputs) ≡ word_bytes * length inputs
unfolding bytes_of_inputs
length_inputs [] = refl
length_inputs (w ∷ inputs) = omega (arith, length-append (low_first word_bytes w) (bytes_of_inputs inputs), length_low word_bytes w, length_inputs inputs)

pub inputs_bytes : (inputs : List ℕ) → Bytes (bytes_of_inputs inputs)
unfolding bytes_of_inputs
inputs_bytes [] = no_byte
inputs_bytes (w ∷ inputs) = bytes_both (low_first word_bytes w) (low_bytes word_bytes w) (inputs_bytes inputs)

pub words_fit : (k : ℕ) (bytes : List ℕ) → Bytes bytes → word_bytes * k ≤ length bytes → (row : ℕ) → get_or (words_of k bytes) row 0 < 2 ^ 64
unfolding words_of
words_fit zero bytes h fits row = omega arith
words_fit (suc k) bytes h fits zero = word_fits bytes (omega arith) h
words_fit (suc k) bytes h fits (suc row) = words_fit k (drop word_bytes bytes) (bytes_from word_bytes h) (omega (arith, length-drop word_bytes bytes)) row

pub words_of_inputs : (inputs behind : List ℕ) → ((i : ℕ) → get_or inputs i 0 < 2 ^ 64) → words_of (length inputs) (bytes_of_inputs inputs ++ behind) ≡ inputs
unfolding bytes_of_inputs words_of
words_of_inputs [] behind h = refl
words_of_inputs (w ∷ inputs) behind h =
    let low = low_first word_bytes w in
    let more = bytes_of_inputs inputs ++ behind in
    let apart : low ++ bytes_of_inputs inputs ++ behind ≡ low ++ more = append_assoc low (bytes_of_inputs inputs) behind in
    ap (λ (l : List ℕ). number_of (take word_bytes l) ∷ words_of (length inputs) (drop word_bytes l)) apart
    ∙ ap (λ (l : List ℕ). number_of l ∷ words_of (length inputs) (drop word_bytes (low ++ more))) (take_at low more word_bytes (length_low word_bytes w))
    ∙ ap (λ (l : List ℕ). number_of low ∷ words_of (length inputs) l) (drop_at low more word_bytes (length_low word_bytes w))
    ∙ ap (λ (x : ℕ). x ∷ words_of (length inputs) more) (number_of_low word_bytes w (h 0))
    ∙ ap (λ (l : List ℕ). w ∷ l) (words_of_inputs inputs behind (λ i. h (suc i)))

pub inputs_of_words : (k : ℕ) (bytes : List ℕ) → Bytes bytes → word_bytes * k ≤ length bytes → bytes_of_inputs (words_of k bytes) ≡ take (word_bytes * k) bytes
unfolding bytes_of_inputs words_of
inputs_of_words zero bytes h fits = refl
inputs_of_words (suc k) bytes h fits =
    let word = take word_bytes bytes in
    let long : length word ≡ word_bytes = length-take-le word_bytes bytes (omega arith) in
    let further : word_bytes + word_bytes * k ≡ word_bytes * suc k = omega arith in
    ap (λ (j : ℕ). low_first j (number_of word) ++ bytes_of_inputs (words_of k (drop word_bytes bytes))) (sym long)
    ∙ ap (λ (l : List ℕ). l ++ bytes_of_inputs (words_of k (drop word_bytes bytes))) (low_of_number word (bytes_first word_bytes bytes h))
    ∙ ap (λ (l : List ℕ). word ++ l) (inputs_of_words k (drop word_bytes bytes) (bytes_from word_bytes h) (omega (arith, length-drop word_bytes bytes)))
    ∙ sym (take-add word_bytes (word_bytes * k) bytes)
    ∙ ap (λ (m : ℕ). take m bytes) further

-- ---- steps
pub length_steps : (steps : List Step) → length (bytes_of_steps steps) ≡ step_bytes * length steps
unfolding bytes_of_steps
length_steps [] = refl
length_steps (s ∷ steps) = omega (arith, length_steps steps)

pub steps_of_bytes : (steps : List Step) → steps_of (bytes_of_steps steps) ≡ steps
unfolding bytes_of_steps steps_of
steps_of_bytes [] = refl
steps_of_bytes (s ∷ steps) = ap (λ (l : List Step). s ∷ l) (steps_of_bytes steps)

pub bytes_of_steps_says : (k : ℕ) (bytes : List ℕ) → length bytes ≡ step_bytes * k → (bytes_of_steps (steps_of bytes) ≡ bytes) × (length (steps_of bytes) ≡ k)
unfolding bytes_of_steps steps_of
bytes_of_steps_says k [] h = (refl, omega arith)
bytes_of_steps_says k (op ∷ []) h = absurd (omega arith)
bytes_of_steps_says k (op ∷ left ∷ []) h = absurd (omega arith)
bytes_of_steps_says zero (op ∷ left ∷ right ∷ bytes) h = absurd (omega arith)
bytes_of_steps_says (suc k) (op ∷ left ∷ right ∷ bytes) h =
    let more = bytes_of_steps_says k bytes (omega arith) in
    (ap (λ (l : List ℕ). op ∷ left ∷ right ∷ l) more.0, ap suc more.1)
