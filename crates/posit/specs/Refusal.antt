-- The tests of calls on posits, in the order in which they are made.
use Rattle.std.specs.Prelude.{ℕ, ◌^◌, not, [], ◌∷◌, nat_le}
use Rattle.call.specs.Number.{outside_limits, too_large}
use Rattle.call.specs.Place.{left, right}
use Rattle.call.specs.Verdict.{Verdict, Test, first_hit}
use Rattle.call.specs.Operation.{operation_test}
use Rattle.posit.specs.Format.{is_format}

-- 1: n or es outside the format limits
abbrev pub format_test : ℕ → ℕ → Test
format_test n es = record { hit = not (is_format n es); gives = record { number = outside_limits; place = left } }

-- 3: posit of 2^n or more
abbrev pub posit_test : ℕ → ℕ → ℕ → Test
posit_test n place p = record { hit = nat_le (2 ^ n) p; gives = record { number = too_large; place = place } }

-- ---- one posit of a format, at a place, and two
abbrev pub verdict_of_posit : ℕ → ℕ → ℕ → Verdict
verdict_of_posit n place p = first_hit (posit_test n place p ∷ [])

abbrev pub verdict_of_posits : ℕ → ℕ → ℕ → Verdict
verdict_of_posits n p q = first_hit (posit_test n left p ∷ posit_test n right q ∷ [])

-- ---- and the calls
-- encode, from a float
unfoldable pub verdict_of_format : ℕ → ℕ → Verdict
verdict_of_format n es = first_hit (format_test n es ∷ [])

-- decode, negate, to a float
unfoldable pub verdict_of_one : ℕ → ℕ → ℕ → Verdict
verdict_of_one n es p = first_hit (format_test n es ∷ posit_test n left p ∷ [])

-- compare
unfoldable pub verdict_of_two : ℕ → ℕ → ℕ → ℕ → Verdict
verdict_of_two n es p q = first_hit (format_test n es ∷ posit_test n left p ∷ posit_test n right q ∷ [])

-- an operation on two posits
unfoldable pub verdict_of_operation : ℕ → ℕ → ℕ → ℕ → ℕ → Verdict
verdict_of_operation n es op p q = first_hit (format_test n es ∷ operation_test op ∷ posit_test n left p ∷ posit_test n right q ∷ [])
