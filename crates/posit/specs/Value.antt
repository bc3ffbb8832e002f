-- What a posit is worth: every finite posit is a whole multiple of minPos, which is 2^-m.
use Rattle.std.specs.Prelude.{ℕ, zero, suc, ◌+◌, ◌-◌, ◌*◌, ◌^◌, true, false, cond, ℤ, pos, neg_ℤ, nat_lt}
use Rattle.exact.specs.Fraction.{Fraction, over_power}
use Rattle.posit.specs.Format.{m, nar, negated}
use Rattle.posit.specs.Reading.{run_bit, run_length, exponent, fraction_bits, fraction}

-- k counted from minPos's, which is -(b - 1): for a run of r zeros b - 1 - r, for one of r ones b - 1 + r - 1
abbrev from_lowest : ℕ → ℕ → ℕ → ℕ
from_lowest b zero r = b - 1 - r
from_lowest b (suc x) r = b - 1 + (r - 1)

-- the scale counted from minPos's
abbrev pub scale_above : ℕ → ℕ → ℕ → ℕ
scale_above b es p = from_lowest b (run_bit b p) (run_length b p) * 2 ^ es + exponent b es p

-- the pattern p of b bits as a multiple of minPos: 0 for pattern 0, else 2^(its scale - f) · (2^f + F)
unfoldable pub multiple : ℕ → ℕ → ℕ → ℕ
multiple b es zero = 0
multiple b es (suc p) =
    2 ^ (scale_above b es (suc p) - fraction_bits b es (suc p)) * (2 ^ fraction_bits b es (suc p) + fraction b es (suc p))

-- the value of a finite posit as a multiple of minPos: with the top bit set, the magnitude of the negated pattern, negative.
-- NaR is no number, and what stands here for it is not asked.
unfoldable pub units : ℕ → ℕ → ℕ → ℤ
units n es p =
    elim (nat_lt p (nar n)) [
      | true ↦ pos (multiple (n - 1) es p)
      | false ↦ neg_ℤ (pos (multiple (n - 1) es (negated n p)))
    ]

-- the value of a finite posit
abbrev pub value : ℕ → ℕ → ℕ → Fraction
value n es p = over_power (units n es p) (m n es)

-- a pattern as a signed integer of n bits
abbrev pub signed : ℕ → ℕ → ℤ
signed n p = cond (nat_lt p (nar n)) (pos p) (neg_ℤ (pos (2 ^ n - p)))
