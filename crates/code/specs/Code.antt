-- The code of a magnitude: the bits of the double that it is, a scale before 52 digits behind the first, so that codes compare as their magnitudes do.
use Rattle.std.specs.Prelude.{◌≡◌, ℕ, ◌+◌, ◌-◌, ◌*◌, ◌/◌, ◌%◌, ◌^◌, ◌<◌, ◌≤◌}
use Rattle.exact.specs.Fraction.{Fraction, ◌≈◌}
use Rattle.posit.specs.Value.{value}
use Rattle.posit.specs.Locating.{given}

-- the scale before k digits, and these with the first, which stands for 2^k
abbrev pub scale_in : ℕ → ℕ → ℕ
scale_in k c = c / 2 ^ k

abbrev pub digits_in : ℕ → ℕ → ℕ
digits_in k c = 2 ^ k + c % 2 ^ k

-- scales are counted from 2^-1023: digits · 2^scale / 2^(k + 1023)
abbrev pub code_value : ℕ → ℕ → Fraction
code_value k c = given (digits_in k c) (scale_in k c) (k + 1023)

-- fourteen digits behind the first hold every posit, and its regime is less than 16 away from 0
pub record IsCode (es c : ℕ) : Type 0 where
  pub at_least : (1023 - 16 * 2 ^ es) * 2 ^ 52 ≤ c
  pub less : c < (1023 + 16 * 2 ^ es) * 2 ^ 52
  pub few : c % 2 ^ 38 ≡ 0

-- c is the code of the posit m, which is above 0
pub record CodeOf (n es m c : ℕ) : Type 0 where
  pub code : IsCode es c
  pub says : code_value 52 c ≈ value n es m
