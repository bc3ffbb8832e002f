-- Refusals: the number that a call comes back with and its place. The first test that hits gives both; where none hits, the call is done.
use Rattle.std.specs.Prelude.{Bool, true, false, List, [], ◌∷◌, ◌≡◌, ℕ, Result, MatchResult}
use Rattle.call.specs.declared.refusal.Refusal.{Refusal}
use Rattle.call.specs.Number.{number_of}

pub record Verdict : Type 0 where
  pub number : ℕ
  pub place : ℕ

-- number 0: done, at place 0
abbrev pub done : Verdict
done = record { number = 0; place = 0 }

-- a test with the number and the place that it gives where it hits
pub record Test : Type 0 where
  pub hit : Bool
  pub gives : Verdict

unfoldable pub first_hit : List Test → Verdict
first_hit [] = done
first_hit (t ∷ ts) = elim t.hit [ true ↦ t.gives | false ↦ first_hit ts ]

-- the verdict that a refusal is
abbrev pub refused : Refusal → Verdict
refused e = record { number = number_of e.reason; place = e.place }

-- a call comes back with a right answer where its verdict is done, and else with the refusal that its verdict is
abbrev pub Answers : {A : Type 0} → Verdict → (A → Type 0) → Result A Refusal → Type 0
Answers v Right r = MatchResult r (λ x. (v ≡ done) × Right x) (λ e. v ≡ refused e)

-- the same of a call that judges and answers nothing else
abbrev pub Says : Verdict → Result (Unit {0}) Refusal → Type 0
Says v = Answers v (λ _. Unit {0})
