-- Where an exact magnitude lies among the patterns of a width: the largest pattern whose value is at most the magnitude.
use Rattle.std.specs.Prelude.{◌≡◌, ℕ, ◌+◌, ◌*◌, ◌^◌, ◌<◌, Bool, true, false, pos}
use Rattle.exact.specs.Fraction.{Fraction, ◌≤ᶠ◌, ◌<ᶠ◌, ◌≈◌, over_power}
use Rattle.posit.specs.Format.{nar}
use Rattle.posit.specs.Value.{value}

-- L is the largest pattern with a clear top bit whose value is at most x
pub record IsFloor (n es : ℕ) (x : Fraction) (L : ℕ) : Type 0 where
  pub fits : L < nar n
  pub at_most : value n es L ≤ᶠ x
  pub next_above : L + 1 < nar n → x <ᶠ value n es (L + 1)

-- g · 2^s / 2^a
abbrev pub given : ℕ → ℕ → ℕ → Fraction
given g s a = over_power (pos (g * 2 ^ s)) a

-- L is the floor, among the patterns one bit longer than the format's, of every x from g · 2^s / 2^a to below (g + 1) · 2^s / 2^a,
-- and `exact` says whether it is g · 2^s / 2^a itself
pub record Locates (n es g s a L : ℕ) (exact : Bool) : Type 0 where
  pub floor : (x : Fraction) → given g s a ≤ᶠ x → x <ᶠ given (g + 1) s a → IsFloor (n + 1) es x L
  pub hit : exact ≡ true → given g s a ≈ value (n + 1) es L
  pub miss : exact ≡ false → value (n + 1) es L <ᶠ given g s a
