-- The finite posits of a format numbered in the order of their values, from the most negative, number 0, up.
use Rattle.std.specs.Prelude.{ℕ, ◌+◌, ◌-◌, ◌%◌, ◌^◌}
use Rattle.exact.specs.Fraction.{Fraction}
use Rattle.posit.specs.Format.{nar}
use Rattle.posit.specs.Value.{value}

-- how many there are
abbrev pub count : ℕ → ℕ
count n = 2 ^ n - 1

-- the pattern of number k, and the number of a pattern
abbrev pub pattern_at : ℕ → ℕ → ℕ
pattern_at n k = (k + nar n + 1) % 2 ^ n

abbrev pub number_of : ℕ → ℕ → ℕ
number_of n p = (p + nar n - 1) % 2 ^ n

abbrev pub value_at : ℕ → ℕ → ℕ → Fraction
value_at n es k = value n es (pattern_at n k)
