-- The rounded posit as a computation: a search through the patterns for the neighbours of |x|, and the rule at the pattern one bit longer.
use Rattle.std.specs.Prelude.{ℕ, zero, suc, ◌+◌, ◌%◌, true, false, ◌==◌, unsigned_abs}
use Rattle.exact.specs.Fraction.{Fraction, leᶠ, ltᶠ}
use Rattle.posit.specs.Format.{max_pos, min_pos}
use Rattle.posit.specs.Value.{value}
use Rattle.posit.specs.Rounding.{middle, size, with_sign_of}

-- the largest of the patterns 0 to k whose value is at most x, for an x above 0
unfoldable pub floor_up_to : ℕ → ℕ → Fraction → ℕ → ℕ
floor_up_to n es x zero = 0
floor_up_to n es x (suc k) = elim (leᶠ (value n es (suc k)) x) [ true ↦ suc k | false ↦ floor_up_to n es x k ]

-- with U the largest pattern whose value is at most x: minPos for none, maxPos for the last, else by the middle of U and the next
unfoldable pub chosen : ℕ → ℕ → Fraction → ℕ → ℕ
chosen n es x zero = min_pos
chosen n es x (suc u) =
    elim (suc u == max_pos n) [
      | true ↦ suc u
      | false ↦
          elim (ltᶠ x (middle n es (suc u))) [
            | true ↦ suc u
            | false ↦ elim (ltᶠ (middle n es (suc u)) x) [ true ↦ suc u + 1 | false ↦ suc u + suc u % 2 ]
          ]
    ]

-- an x above 0, rounded
unfoldable pub nearest_above : ℕ → ℕ → Fraction → ℕ
nearest_above n es x = chosen n es x (floor_up_to n es x (max_pos n))

-- x rounded to a posit: 0 for 0, else |x| rounded, with the sign of x
unfoldable pub nearest : ℕ → ℕ → Fraction → ℕ
nearest n es x = elim (unsigned_abs x.num) [ zero ↦ 0 | suc a ↦ with_sign_of n x (nearest_above n es (size x)) ]
