-- What the inner functions of arithmetic say: a magnitude above 0 known to a word, and sums of such.
use Rattle.std.specs.Prelude.{◌≡◌, ℕ, ◌+◌, Bool, true, false, pos, Option, Some, None}
use Rattle.exact.specs.Fraction.{Fraction, ◌≤ᶠ◌, ◌<ᶠ◌, ◌≈◌, whole, over_power, negᶠ, ◌+ᶠ◌, ◌-ᶠ◌, ◌*ᶠ◌, ◌/ᶠ◌}
use Rattle.posit.specs.declared.inner.finite.Finite.{Finite}
use Rattle.posit.specs.declared.inner.magnitude.Magnitude.{Magnitude}
use Rattle.posit.specs.declared.inner.signed.Signed.{Signed}
use Rattle.posit.specs.Rounding.{Rounds}
use Rattle.posit.specs.Decoding.{finite_value}
use Rattle.posit.specs.Locating.{given}
use Rattle.posit.specs.SmallForm.{unit_bits}

-- z, or -z
abbrev pub with_signᶠ : Bool → Fraction → Fraction
with_signᶠ true z = negᶠ z
with_signᶠ false z = z

-- z lies from g · 2^s / 2^a to below the next, and on the lower end exactly where nothing was lost
pub record Within (z : Fraction) (g s a : ℕ) (lost : Bool) : Type 0 where
  pub at_least : given g s a ≤ᶠ z
  pub less : z <ᶠ given (g + 1) s a
  pub whole_of_it : lost ≡ false → z ≈ given g s a
  pub more_than_it : lost ≡ true → given g s a <ᶠ z

-- z is a magnitude that x knows
abbrev pub Knows : Fraction → Magnitude → Type 0
Knows z x = Within z x.g x.s x.a x.lost

-- whatever magnitude x knows, with the sign it is rounded to r
abbrev pub RoundsEach : ℕ → ℕ → Bool → Magnitude → ℕ → Type 0
RoundsEach n es negative x r = (z : Fraction) → Knows z x → Rounds n es (with_signᶠ negative z) r

-- the number that x is, and its size
abbrev pub meant : Finite → Fraction
meant x = finite_value x.negative x.scale x.fraction

abbrev pub meant_size : Finite → Fraction
meant_size x = finite_value false x.scale x.fraction

abbrev pub ProductOf : Finite → Finite → Magnitude → Type 0
ProductOf x y r = Knows (meant_size x *ᶠ meant_size y) r

abbrev pub QuotientOf : Finite → Finite → Magnitude → Type 0
QuotientOf x y r = Knows (meant_size x /ᶠ meant_size y) r

-- ---- sums
-- a whole number of units of 2^-56
abbrev pub units56 : ℕ → Fraction
units56 x = over_power (pos x) unit_bits

abbrev pub Narrows : ℕ → Magnitude → Type 0
Narrows x r = Knows (units56 x) r

-- r is z: nothing, or a sign and a magnitude
abbrev pub IsSum : Fraction → Option (Signed Magnitude) → Type 0
IsSum z None = z ≈ whole (pos 0)
IsSum z (Some r) = Knows (with_signᶠ r.negative z) r.size

abbrev pub DifferenceOf : Bool → ℕ → ℕ → Option (Signed Magnitude) → Type 0
DifferenceOf negative x y r = IsSum (with_signᶠ negative (units56 x -ᶠ units56 y)) r

abbrev pub SumOf : Finite → Finite → Option (Signed Magnitude) → Type 0
SumOf x y r = IsSum (meant x +ᶠ meant y) r

-- r is the rounded sum of two numbers
abbrev pub AddsFinite : ℕ → ℕ → Finite → Finite → ℕ → Type 0
AddsFinite n es x y r = Rounds n es (meant x +ᶠ meant y) r
