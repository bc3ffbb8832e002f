-- What the calls on ranges come back with.
use Rattle.std.specs.Prelude.{◌≡◌, Bool, true, ◌↔◌, ℕ, [], ◌∷◌, Result}
use Rattle.exact.specs.Fraction.{Fraction, ◌≈◌, negᶠ}
use Rattle.call.specs.Verdict.{Answers, Verdict, first_hit}
use Rattle.call.specs.declared.refusal.Refusal.{Refusal}
use Rattle.word.specs.Member.{Member}
use Rattle.word.specs.Smallest as Smallest
use Rattle.word.specs.Smallest.{IsAnswer}
use Rattle.word.specs.Refusal.{verdict_of_range, verdict_of_ranges, verdict_of_range_operation, word_test, infinity_test}

-- the negatives of the members of a
pub record Negative (n es a : ℕ) (z : Fraction) : Type 0 where
  pub of : Fraction
  pub member : Member n es a of
  pub is_negative : z ≈ negᶠ of

abbrev pub NegationOf : ℕ → ℕ → ℕ → Result ℕ Refusal → Type 0
NegationOf n es a r = Answers (verdict_of_range n es a) (IsAnswer n es (Negative n es a)) r

-- an answer is yes exactly where P holds
abbrev pub Tells : Type 0 → Bool → Type 0
Tells P answer = (answer ≡ true) ↔ P

abbrev pub ComparisonOf : (ℕ → ℕ → ℕ → ℕ → Type 0) → ℕ → ℕ → ℕ → ℕ → Result Bool Refusal → Type 0
ComparisonOf P n es a b r = Answers (verdict_of_ranges n es a b) (Tells (P n es a b)) r

abbrev pub OperationOf : ℕ → ℕ → ℕ → ℕ → ℕ → Result ℕ Refusal → Type 0
OperationOf n es op a b r = Answers (verdict_of_range_operation n es op a b) (IsAnswer n es (Smallest.Result n es op a b)) r

-- the tests of one word: 3, then 4, at a place
abbrev pub verdict_of_word : ℕ → ℕ → ℕ → Verdict
verdict_of_word n place a = first_hit (word_test n place a ∷ infinity_test n place a ∷ [])
