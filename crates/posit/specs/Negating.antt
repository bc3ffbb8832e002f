-- Negation keeps zero and NaR; any other posit is negated as a pattern, wrapping at n bits.
use Rattle.std.specs.Prelude.{◌≡◌, ℕ, Result}
use Rattle.call.specs.declared.refusal.Refusal.{Refusal}
use Rattle.posit.specs.Format.{negated}
use Rattle.call.specs.Verdict.{Answers}
use Rattle.posit.specs.Refusal.{verdict_of_one}

-- what `negate` answers
abbrev pub NegationOf : ℕ → ℕ → ℕ → Result ℕ Refusal → Type 0
NegationOf n es p r = Answers (verdict_of_one n es p) (λ (q : ℕ). q ≡ negated n p) r
