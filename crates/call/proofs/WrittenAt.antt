-- The lent column after a call, word by word: the words written from the row on, and every other word as it was.
use mathlib.Core.Path.{◌≡◌, refl, sym, ap, ◌∙◌}
use mathlib.Core.Logic.{◌≢◌}
use mathlib.Core.List.{List, ◌++◌}
use Prim.Native.Nat.{ℕ, zero, suc, ◌+◌, ◌≤◌, ◌<◌}
use native.Mathlib.Omega.{arith}
use lib.ListN.{length, get_or, take, drop, length-append, get_or-append}
use lib.Seq.{length-take-le, get_or-take, get_or-drop, get_or-append-add}
use Rattle.call.specs.Verdict.{Verdict}
use Rattle.std.specs.Prelude.{Result}
use Rattle.call.specs.declared.refusal.Refusal.{Refusal}
use Rattle.call.specs.Written.{Writes, overwritten, later_of}

module _ (row : ℕ) (words lent : List ℕ) (room : row + length words ≤ length lent) where
  before_length : length (take row lent) ≡ row
  before_length = length-take-le row lent (omega arith)

  front_length : length (take row lent ++ words) ≡ row + length words
  front_length = length-append (take row lent) words ∙ ap (λ (k : ℕ). k + length words) before_length

  word_at : (k : ℕ) → k < length words → get_or (overwritten row words lent) (row + k) 0 ≡ get_or words k 0
  word_at k h =
      get_or-append (take row lent ++ words) (drop (row + length words) lent) 0 (row + k) (omega (arith, front_length))
      ∙ ap (λ (m : ℕ). get_or (take row lent ++ words) (m + k) 0) (sym before_length)
      ∙ get_or-append-add (take row lent) words k 0

  before_at : (k : ℕ) → k < row → get_or (overwritten row words lent) k 0 ≡ get_or lent k 0
  before_at k h =
      get_or-append (take row lent ++ words) (drop (row + length words) lent) 0 k (omega (arith, front_length))
      ∙ get_or-append (take row lent) words 0 k (omega (arith, before_length))
      ∙ get_or-take row lent k 0 h

  behind_at : (k : ℕ) → get_or (overwritten row words lent) (row + length words + k) 0 ≡ get_or lent (row + length words + k) 0
  behind_at k =
      ap (λ (m : ℕ). get_or (overwritten row words lent) (m + k) 0) (sym front_length)
      ∙ get_or-append-add (take row lent ++ words) (drop (row + length words) lent) k 0
      ∙ get_or-drop (row + length words) lent k 0

module _ {v : Verdict} {row : ℕ} {words before after : List ℕ} {r : Result ℕ Refusal} (w : Writes v row words before after r) where
  done_later : v.number ≡ 0 → after ≡ overwritten row words before
  done_later z = w.later ∙ ap (λ (k : ℕ). later_of k row words before) z

  pub refused_keeps : v.number ≢ 0 → after ≡ before
  refused_keeps d = w.later ∙ go v.number d
    where
      go : (k : ℕ) → k ≢ 0 → later_of k row words before ≡ before
      go zero d = absurd (d refl)
      go (suc k) d = refl

  module _ (accepted : v.number ≡ 0) (room : row + length words ≤ length before) where
    pub written_at : (k : ℕ) → k < length words → get_or after (row + k) 0 ≡ get_or words k 0
    written_at k h = ap (λ (l : List ℕ). get_or l (row + k) 0) (done_later accepted) ∙ word_at row words before room k h

    pub kept_before : (k : ℕ) → k < row → get_or after k 0 ≡ get_or before k 0
    kept_before k h = ap (λ (l : List ℕ). get_or l k 0) (done_later accepted) ∙ before_at row words before room k h

    pub kept_behind : (k : ℕ) → get_or after (row + length words + k) 0 ≡ get_or before (row + length words + k) 0
    kept_behind k = ap (λ (l : List ℕ). get_or l (row + length words + k) 0) (done_later accepted) ∙ behind_at row words before room k
