-- Range words taken apart: the cells of their members, or a refusal.
use Rattle.std.specs.Prelude.{◌≡◌, ℕ, Result, MatchResult}
use Rattle.call.specs.declared.reason.Reason.{Reason}
use Rattle.call.specs.declared.refusal.Refusal.{Refusal}
use Rattle.call.specs.Verdict.{Answers, refused}
use Rattle.word.specs.declared.inner.span.Span.{Span}
use Rattle.word.specs.Member.{Real}
use Rattle.word.specs.Refusal.{verdict_of_words}
use Rattle.word.specs.Calls.{verdict_of_word}
use Rattle.word.specs.Spans.{cells_of}

-- a word taken apart: the cells of a real range, or why it is refused, which at each place is its verdict
abbrev pub TakesWord : ℕ → ℕ → Result Span Reason → Type 0
TakesWord n w r =
    MatchResult r (λ cells. Real n w × (cells ≡ cells_of n w))
    (λ e. (place : ℕ) → verdict_of_word n place w ≡ refused (record { reason = e; place = place }))

-- the cells of two real ranges
pub record CellsOfBoth (n a b : ℕ) (cells : Span × Span) : Type 0 where
  pub left_real : Real n a
  pub right_real : Real n b
  pub left : cells.0 ≡ cells_of n a
  pub right : cells.1 ≡ cells_of n b

-- both operands of a call: their cells, or the first refusal
abbrev pub TakesBoth : ℕ → ℕ → ℕ → Result (Span × Span) Refusal → Type 0
TakesBoth n a b r = Answers (verdict_of_words n a b) (CellsOfBoth n a b) r
