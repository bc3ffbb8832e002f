-- What a call comes back with, by its verdict: refused, it has written nothing.
use mathlib.Core.Path.{◌≡◌, refl, sym, ap, ◌∙◌}
use mathlib.Core.Logic.{◌≢◌}
use mathlib.Core.List.{List, ◌++◌, append_assoc, append-nil}
use Prim.Native.Nat.{ℕ, zero, suc, ◌+◌, ◌-◌, ◌≤◌}
use native.Mathlib.Omega.{arith}
use lib.ListN.{length, take, drop, length-drop, drop_of_length-le}
use lib.Seq.{take_all, drop-drop}
use Rattle.call.specs.declared.refusal.Refusal.{Refusal}
use Rattle.call.specs.Verdict.{Verdict, done, refused}
use Rattle.call.specs.Written.{later_of, overwritten}
use Rattle.call.proofs.Answered.{refuses, accepts}

-- where the number is not 0
later_kept : (k row : ℕ) (words lent : List ℕ) → k ≢ 0 → lent ≡ later_of k row words lent
later_kept zero row words lent d = absurd (d refl)
later_kept (suc k) row words lent d = refl

pub later_refused : {v : Verdict} (e : Refusal) (row : ℕ) (words lent : List ℕ) → v ≡ refused e → lent ≡ later_of v.number row words lent
later_refused {v} e row words lent s = later_kept v.number row words lent (refuses e s)

pub later_done : {v : Verdict} (row : ℕ) (words before : List ℕ) {after : List ℕ} → v ≡ done → after ≡ overwritten row words before → after ≡ later_of v.number row words before
later_done row words before s l = l ∙ ap (λ (k : ℕ). later_of k row words before) (sym (accepts s))

-- words written to the front of the part from a row on, seen in the whole column
pub part_back : (row : ℕ) (words lent : List ℕ) → row + length words ≤ length lent
    → take row lent ++ (words ++ drop (length words) (take (length lent - row) (drop row lent)) ++ drop (length lent - row) (drop row lent)) ≡ overwritten row words lent
part_back row words lent h =
    let size : length (drop row lent) ≡ length lent - row = length-drop row lent in
    ap (λ (l : List ℕ). take row lent ++ (words ++ drop (length words) l ++ drop (length lent - row) (drop row lent))) (take_all (length lent - row) (drop row lent) (omega arith))
    ∙ ap (λ (l : List ℕ). take row lent ++ (words ++ drop (length words) (drop row lent) ++ l)) (drop_of_length-le (drop row lent) {i = length lent - row} (omega arith))
    ∙ ap (λ (l : List ℕ). take row lent ++ l) (append-nil (words ++ drop (length words) (drop row lent)))
    ∙ sym (append_assoc (take row lent) words (drop (length words) (drop row lent)))
    ∙ ap (λ (l : List ℕ). take row lent ++ words ++ l) (drop-drop (length words) row lent)
