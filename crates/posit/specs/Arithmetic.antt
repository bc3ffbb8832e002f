-- The four operations: the exact result of the values, rounded once; NaR in an operand gives NaR, and so does a zero divisor.
use Rattle.std.specs.Prelude.{ℕ, zero, suc, Bool, true, false, ◌&&◌, ◌||◌, ◌==◌}
use Rattle.call.specs.Operation.{over}
use Rattle.exact.specs.Fraction.{Fraction, ◌+ᶠ◌, ◌-ᶠ◌, ◌*ᶠ◌, ◌/ᶠ◌}
use Rattle.posit.specs.Format.{nar}
use Rattle.posit.specs.Value.{value}
use Rattle.posit.specs.Nearest.{nearest}

-- by the operation number: 0 add, 1 subtract, 2 multiply, else divide
abbrev pub exact_result : ℕ → Fraction → Fraction → Fraction
exact_result zero x y = x +ᶠ y
exact_result (suc zero) x y = x -ᶠ y
exact_result (suc (suc zero)) x y = x *ᶠ y
exact_result (suc (suc (suc op))) x y = x /ᶠ y

-- the operation has no number for its result: an operand is NaR, or the divisor is 0
abbrev pub has_no_number : ℕ → ℕ → ℕ → ℕ → Bool
has_no_number n op p q = p == nar n || q == nar n || (op == over && q == 0)

-- what operation op answers for the posits p and q
unfoldable pub answer : ℕ → ℕ → ℕ → ℕ → ℕ → ℕ
answer n es op p q =
    elim (has_no_number n op p q) [
      | true ↦ nar n
      | false ↦ nearest n es (exact_result op (value n es p) (value n es q))
    ]
