-- Comparison answers less, equal or greater as for signed integers of n bits.
use Rattle.std.specs.Prelude.{◌≡◌, ℕ, ◌<ℤ◌, Result}
use Rattle.std.specs.declared.cmp.Ordering.{Ordering}
use Rattle.std.specs.declared.cmp.Ordering.TheVariants.{Less, Equal, Greater}
use Rattle.call.specs.declared.refusal.Refusal.{Refusal}
use Rattle.posit.specs.Value.{signed}
use Rattle.call.specs.Verdict.{Answers}
use Rattle.posit.specs.Refusal.{verdict_of_two}

abbrev pub Compares : ℕ → ℕ → ℕ → Ordering → Type 0
Compares n p q Less = signed n p <ℤ signed n q
Compares n p q Equal = p ≡ q
Compares n p q Greater = signed n q <ℤ signed n p

-- what `compare` answers
abbrev pub ComparisonOf : ℕ → ℕ → ℕ → ℕ → Result Ordering Refusal → Type 0
ComparisonOf n es p q r = Answers (verdict_of_two n es p q) (Compares n p q) r
