-- What a call that writes words into a lent column comes back with, and what the lent column is later.
use Rattle.std.specs.Prelude.{Result, ◌≡◌, List, ◌++◌, ℕ, zero, suc, ◌+◌, ltb, length, take, drop}
use Rattle.call.specs.Number.{no_room}
use Rattle.call.specs.Verdict.{Verdict, Test, Answers}
use Rattle.call.specs.declared.refusal.Refusal.{Refusal}

-- words in a column from a row on; what stands before and behind them stays
abbrev pub overwritten : ℕ → List ℕ → List ℕ → List ℕ
overwritten row words lent = take row lent ++ words ++ drop (row + length words) lent

-- by the number of the verdict: the words written, and the column as it was where the call is refused
abbrev pub later_of : ℕ → ℕ → List ℕ → List ℕ → List ℕ
later_of zero row words lent = overwritten row words lent
later_of (suc k) row words lent = lent

-- the call writes these words from this row on and answers how many they are, unless its verdict refuses it
pub record Writes (v : Verdict) (row : ℕ) (words before after : List ℕ) (r : Result ℕ Refusal) : Type 0 where
  pub count : Answers v (λ (count : ℕ). count ≡ length words) r
  pub later : after ≡ later_of v.number row words before

-- 9: the named row plus the words to be written exceeds the lent column's length
abbrev pub room_test : ℕ → ℕ → ℕ → Test
room_test row count lent = record { hit = ltb lent (row + count); gives = record { number = no_room; place = 0 } }
