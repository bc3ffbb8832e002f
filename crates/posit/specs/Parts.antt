-- What the inner functions say of their results: the parts of a pattern, a tail cut to size, and the rounding from a floor.
use Rattle.std.specs.Prelude.{◌≡◌, ℕ, zero, suc, ◌+◌, ◌-◌, ◌*◌, ◌/◌, ◌%◌, ◌^◌, ◌<◌, ◌≤◌, Bool, true, false, ℤ, ◌==◌}
use Rattle.exact.specs.Fraction.{◌≈◌, ◌<ᶠ◌}
use Rattle.posit.specs.declared.inner.unpack.Parts.{Parts}
use Rattle.posit.specs.declared.inner.locate.Located.{Located}
use Rattle.posit.specs.declared.decoded.Decoded.{Decoded}
use Rattle.posit.specs.declared.decoded.Decoded.TheVariants.{Zero, Nar, Finite}
use Rattle.posit.specs.Format.{max_pos, min_pos, negated}
use Rattle.posit.specs.Value.{multiple, value}
use Rattle.posit.specs.Decoding.{finite_value}
use Rattle.posit.specs.Locating.{IsFloor}
use Rattle.posit.specs.SmallForm.{SmallForm}

-- bit k is the highest set bit of x
pub record HighestBit (x k : ℕ) : Type 0 where
  pub at_least : 2 ^ k ≤ x
  pub less : x < 2 * 2 ^ k

-- the first where the mark is 0, else the second
abbrev pub chosen_by : ℕ → ℕ → ℕ → ℕ
chosen_by zero first second = first
chosen_by (suc mark) first second = second

-- the parts of a tail of w bits behind a regime
pub record TailParts (es regime w tail : ℕ) (r : Parts) : Type 0 where
  pub scale : r.scale ≡ regime * 2 ^ es + tail * 2 ^ es / 2 ^ w
  pub bits : r.bits ≡ w
  pub significand : r.significand ≡ 2 ^ w + tail * 2 ^ es % 2 ^ w

-- the parts of the pattern p of b bits: its multiple of minPos is 2^scale · significand / 2^bits
pub record PartsOf (b es p : ℕ) (r : Parts) : Type 0 where
  pub says : multiple b es p * 2 ^ r.bits ≡ 2 ^ r.scale * r.significand
  pub at_least : 2 ^ r.bits ≤ r.significand
  pub less : r.significand < 2 * 2 ^ r.bits
  pub few_bits : r.bits + 2 ≤ b
  pub scale_fits : r.scale ≤ 2 * ((b - 1) * 2 ^ es)

-- sign, scale and odd fraction of the magnitude p, a form as small as every posit's is
pub record OddOf (n es : ℕ) (negative : Bool) (p : ℕ) (sign : Bool) (s : ℤ) (g : ℕ) : Type 0 where
  pub sign_is : sign ≡ negative
  pub odd : g % 2 ≡ 1
  pub means : finite_value false s g ≈ value n es p
  pub small : SmallForm s g

abbrev pub Odd : ℕ → ℕ → Bool → ℕ → Decoded → Type 0
Odd n es negative p Zero = ⊥
Odd n es negative p Nar = ⊥
Odd n es negative p (Finite sign s g) = OddOf n es negative p sign s g

-- a tail of `width` bits cut to w bits behind a head
pub record Cut (head w width x : ℕ) (r : Located) : Type 0 where
  pub pattern : r.pattern ≡ head + x / 2 ^ (width - w)
  pub exact : r.exact ≡ (x % 2 ^ (width - w) == 0)

-- a tail behind the run of a regime: of zeros below the middle, of ones from it on
pub record BehindRun (n regime width x : ℕ) (r : Located) : Type 0 where
  pub zeros : regime < n - 1 → Cut (2 ^ regime) regime width x r
  pub ones : n - 1 ≤ regime → Cut (2 ^ n - 2 * 2 ^ (2 * n - 3 - regime)) (2 * n - 3 - regime) width x r

-- where fraction · 2^scale lies: exactly, as no bit of it is lost
pub record LocatesScaled (n es : ℕ) (scale : ℤ) (fraction : ℕ) (r : Located) : Type 0 where
  pub floor : IsFloor (n + 1) es (finite_value false scale fraction) r.pattern
  pub hit : r.exact ≡ true → finite_value false scale fraction ≈ value (n + 1) es r.pattern
  pub miss : r.exact ≡ false → value (n + 1) es r.pattern <ᶠ finite_value false scale fraction

-- the posit of a magnitude above 0 whose floor among the longer patterns is L, never 0 and never above maxPos
abbrev odd_floor : ℕ → ℕ → Bool → Bool → ℕ
odd_floor n half true exact = half
odd_floor n half false true = half + half % 2
odd_floor n half false false = half + 1

abbrev up_from : ℕ → ℕ → ℕ → Bool → ℕ
up_from n zero parity exact = min_pos
up_from n (suc h) zero exact = suc h
up_from n (suc h) (suc odd) exact = odd_floor n (suc h) (suc h == max_pos n) exact

abbrev pub rounded_of : ℕ → ℕ → Bool → ℕ
rounded_of n L exact = up_from n (L / 2) (L % 2) exact

-- the posit p, or its negative
abbrev pub with_sign : ℕ → Bool → ℕ → ℕ
with_sign n true p = negated n p
with_sign n false p = p
