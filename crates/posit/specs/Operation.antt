-- What the four operations answer: the exact result of the operands' values, rounded once, and NaR where there is no number.
use Rattle.std.specs.Prelude.{◌≡◌, ℕ, true, false, Result}
use Rattle.call.specs.declared.refusal.Refusal.{Refusal}
use Rattle.posit.specs.Format.{nar}
use Rattle.posit.specs.Value.{value}
use Rattle.posit.specs.Rounding.{Rounds}
use Rattle.posit.specs.Arithmetic.{exact_result, has_no_number}
use Rattle.call.specs.Verdict.{Answers}
use Rattle.posit.specs.Refusal.{verdict_of_operation}

-- r is what operation op answers for the posits p and q
pub record Operates (n es op p q r : ℕ) : Type 0 where
  pub no_number : has_no_number n op p q ≡ true → r ≡ nar n
  pub number : has_no_number n op p q ≡ false → Rounds n es (exact_result op (value n es p) (value n es q)) r

-- what a call of operation op comes back with
abbrev pub OperationOf : ℕ → ℕ → ℕ → ℕ → ℕ → Result ℕ Refusal → Type 0
OperationOf n es op p q r = Answers (verdict_of_operation n es op p q) (Operates n es op p q) r
