-- The highest set bit of a number below 2^b stands below b, and a number is odd times 2 to its trailing zeros.
use Rattle.std.proofs.Common.{◌≡◌, ℕ, zero, suc, ◌*◌, ◌/◌, ◌%◌, ◌^◌, ◌<◌, refl, ap, ◌∙◌, lt_of_le_of_lt, lt_irrefl, mul-div_cancel, arith, pow_pos}
use native.Mathlib.Nat.{pow-succ'}
use lib.Count.{count_trailing_zeros}
use Rattle.exact.proofs.Powers.{pow_lt_cancel}
use Rattle.posit.specs.Parts.{HighestBit}

-- ---- the highest
pub highest_below : {x w : ℕ} (b : ℕ) → HighestBit x w → x < 2 ^ b → w < b
highest_below {w = w} b h u = pow_lt_cancel w b (lt_of_le_of_lt h.at_least u)

-- ---- the lowest
pub record OddTimes (x t g : ℕ) : Type 0 where
  pub product : x ≡ g * 2 ^ t
  pub odd : g % 2 ≡ 1

abbrev Trailing : ℕ → ℕ → Type 0
Trailing k x = (count_trailing_zeros k x < k) × ((g : ℕ) × OddTimes x (count_trailing_zeros k x) g)

by_bit : (k x d : ℕ) → x % 2 ≡ d → (x % 2 ≡ 0 → Trailing k (x / 2)) → Trailing (suc k) x
unfolding count_trailing_zeros
by_bit k x zero e half =
    let (few, (g, o)) = half e in
    rw e (omega arith, (g, record { product = rw (pow-succ' 2 (count_trailing_zeros k (x / 2))) (omega (arith, o.product)); odd = o.odd }))
by_bit k x (suc d) e half = rw e (omega arith, (x, record { product = omega arith; odd = omega arith }))

pub trailing : (k x : ℕ) → 0 < x → x < 2 ^ k → (count_trailing_zeros k x < k) × ((g : ℕ) × OddTimes x (count_trailing_zeros k x) g)
trailing zero x h u = absurd (lt_irrefl 0 (omega arith))
trailing (suc k) x h u = by_bit k x (x % 2) refl (λ (e : x % 2 ≡ 0). trailing k (x / 2) (omega arith) (omega arith))

-- the odd factor is the quotient
pub odd_quotient : {x t g : ℕ} → OddTimes x t g → x / 2 ^ t ≡ g
odd_quotient {t = t} {g = g} o = ap (λ (n : ℕ). n / 2 ^ t) o.product ∙ mul-div_cancel g (pow_pos t)
