-- The lines of rows: one row more adds its line, and a line of a row below 100 has at most 21 bytes.
use mathlib.Core.Path.{◌≡◌, sym, ap, ◌∙◌}
use mathlib.Core.List.{List, [], ◌∷◌, ◌++◌, append_assoc, append-nil}
use Prim.Native.Nat.{ℕ, suc, ◌+◌, ◌*◌, ◌≤◌, ◌<◌}
use native.Mathlib.Nat.{zero-add}
use native.Mathlib.Numerals.{add-one}
use native.Mathlib.Omega.{arith}
use lib.ListN.{length, get_or, take, length-append}
use lib.Seq.{take-suc, length-take-le}
use Rattle.text.specs.Text.{decimal, range_fields, line_feed, row_line, row_lines}
use Rattle.text.proofs.Decimals.{row_digits}

lines_then : (n row : ℕ) (rows : List ℕ) (w : ℕ) → row_lines n row (rows ++ w ∷ []) ≡ row_lines n row rows ++ row_line n (row + length rows) w
unfolding row_lines
lines_then n row [] w =
    let same : row ≡ row + 0 = omega arith in
    append-nil (row_line n row w) ∙ ap (λ (k : ℕ). row_line n k w) same
lines_then n row (a ∷ rows) w =
    let same : suc row + length rows ≡ row + suc (length rows) = omega arith in
    ap (λ (l : List ℕ). row_line n row a ++ l) (lines_then n (suc row) rows w ∙ ap (λ (k : ℕ). row_lines n (suc row) rows ++ row_line n k w) same)
    ∙ sym (append_assoc (row_line n row a) (row_lines n (suc row) rows) (row_line n (row + suc (length rows)) w))

pub next_line : (n : ℕ) (rows : List ℕ) (i : ℕ) → i < length rows → row_lines n 0 (take (i + 1) rows) ≡ row_lines n 0 (take i rows) ++ row_line n i (get_or rows i 0)
next_line n rows i h =
    ap (λ (k : ℕ). row_lines n 0 (take k rows)) (add-one i)
    ∙ ap (row_lines n 0) (take-suc rows i 0 h)
    ∙ lines_then n 0 (take i rows) (get_or rows i 0)
    ∙ ap (λ (k : ℕ). row_lines n 0 (take i rows) ++ row_line n k (get_or rows i 0)) (zero-add (length (take i rows)) ∙ length-take-le i rows (omega arith))

pub line_length : (n row w : ℕ) → row < 100 → length (row_line n row w) ≤ 21
unfolding row_line
line_length n row w h =
    omega
    (arith, row_digits row h, length-append (decimal row) (range_fields n w), length-append (decimal row ++ range_fields n w) (line_feed ∷ []))

pub lines_length : (n row : ℕ) (rows : List ℕ) → row + length rows ≤ 100 → length (row_lines n row rows) ≤ 21 * length rows
unfolding row_lines
lines_length n row [] h = omega arith
lines_length n row (w ∷ rows) h =
    omega (arith, length-append (row_line n row w) (row_lines n (suc row) rows), line_length n row w (omega arith), lines_length n (suc row) rows (omega arith))

-- the four parts of a line, put on a page one behind the other
pub four_behind : (page a b c d : List ℕ) → page ++ a ++ b ++ c ++ d ≡ page ++ (a ++ b ++ c ++ d)
four_behind page a b c d = simp append_assoc
