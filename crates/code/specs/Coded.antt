-- What a code tells of an exact result: its first 24 digits behind the first, and whether there is more.
use Rattle.std.specs.Prelude.{◌≡◌, ℕ, ◌+◌, ◌-◌, ◌*◌, ◌/◌, ◌%◌, ◌^◌, ◌<◌, ◌≤◌, pos, Option, None, Some}
use Rattle.exact.specs.Fraction.{Fraction, ◌≈◌, ◌≤ᶠ◌, ◌<ᶠ◌, whole}
use Rattle.posit.specs.Locating.{given}
use Rattle.posit.specs.Magnitudes.{with_signᶠ}
use Rattle.posit.specs.declared.inner.signed.Signed.{Signed}
use Rattle.code.specs.Code.{scale_in, digits_in, code_value}

-- the regime is at least -48 and less than 32, and no more than forty digits stand behind the first
pub record Fits (es c : ℕ) : Type 0 where
  pub at_least : (1023 - 48 * 2 ^ es) * 2 ^ 52 ≤ c
  pub less : c < (1023 + 32 * 2 ^ es) * 2 ^ 52
  pub few : c % 2 ^ 12 ≡ 0

-- the code cut to 24 digits
abbrev pub first : ℕ → ℕ
first c = c / 2 ^ 28

-- z is what c tells: its number where that has no more than 24 digits, else a number that has more and begins with the same ones
pub record Codes (es : ℕ) (z : Fraction) (c : ℕ) : Type 0 where
  pub fits : Fits es c
  pub at_least : code_value 24 (first c) ≤ᶠ z
  pub less : z <ᶠ given (digits_in 24 (first c) + 1) (scale_in 24 (first c)) (24 + 1023)
  pub whole_of_it : c % 2 ^ 28 ≡ 0 → z ≈ code_value 52 c
  pub more_than_it : 0 < c % 2 ^ 28 → code_value 24 (first c) <ᶠ z

-- r is z: nothing, or a sign and what is known of the magnitude
abbrev pub IsSignedSum : ℕ → Fraction → Option (Signed ℕ) → Type 0
IsSignedSum es z None = z ≈ whole (pos 0)
IsSignedSum es z (Some s) = Codes es (with_signᶠ s.negative z) s.size
