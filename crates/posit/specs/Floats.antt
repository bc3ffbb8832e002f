-- Posits from and to 64-bit floats, by exact values.
use Rattle.std.specs.Prelude.{◌≡◌, ℕ, ◌*◌, ◌^◌, ◌<◌, Bool, false, pos, Float, Result}
use Rattle.std.specs.Float.{nan, inf, fin}
use Rattle.exact.specs.Fraction.{Fraction, ◌≈◌, whole, over_power}
use Rattle.call.specs.declared.refusal.Refusal.{Refusal}
use Rattle.posit.specs.declared.float.Floated.{Floated}
use Rattle.posit.specs.declared.float.Floated.TheVariants.{Value, Nar}
use Rattle.posit.specs.declared.inner.float_bits.FloatParts.{FloatParts}
use Rattle.posit.specs.declared.inner.float_bits.FloatParts.TheVariants.{Infinite, Nothing, Number}
use Rattle.posit.specs.Format.{Finite, nar}
use Rattle.posit.specs.Value.{value}
use Rattle.posit.specs.Rounding.{Rounds}
use Rattle.posit.specs.Decoding.{finite_value}
use Rattle.posit.specs.Magnitudes.{with_signᶠ}
use Rattle.call.specs.Verdict.{Answers}
use Rattle.posit.specs.Refusal.{verdict_of_format, verdict_of_one}

-- +0.0, told from -0.0 by its sign
abbrev pub plus_zero : Float
plus_zero = fin false 0 (pos 0)

-- the float x is exactly z; a float `fin t m e` is m · 2^e, negative where t is true
abbrev pub IsExactly : Float → Fraction → Type 0
IsExactly nan z = ⊥
IsExactly (inf s) z = ⊥
IsExactly (fin t m e) z = finite_value t e m ≈ z

-- p is the float x rounded to a posit: NaN and the infinities give NaR, and -0 gives 0 as +0 does
abbrev pub FromFloat : ℕ → ℕ → Float → ℕ → Type 0
FromFloat n es nan p = p ≡ nar n
FromFloat n es (inf s) p = p ≡ nar n
FromFloat n es (fin t m e) p = Rounds n es (finite_value t e m) p

abbrev pub FromFloatOf : ℕ → ℕ → Float → Result ℕ Refusal → Type 0
FromFloatOf n es x r = Answers (verdict_of_format n es) (FromFloat n es x) r

-- digits · 2^shift of the smallest float above 0, 2^-1074
abbrev pub of_digits : ℕ → ℕ → Fraction
of_digits digits shift = over_power (pos (digits * 2 ^ shift)) 1074

-- the float x is no number: a NaN or an infinity
abbrev pub NoNumber : Float → Type 0
NoNumber nan = Unit {0}
NoNumber (inf s) = Unit {0}
NoNumber (fin t m e) = ⊥

-- the float x by its sign, its digits and their shift
pub record NumberParts (x : Float) (negative : Bool) (digits shift : ℕ) : Type 0 where
  pub some : 0 < digits
  pub few : digits < 2 ^ 53
  pub shift_fits : shift < 2 ^ 11
  pub exactly : IsExactly x (with_signᶠ negative (of_digits digits shift))

abbrev pub PartsOfFloat : Float → FloatParts → Type 0
PartsOfFloat x Infinite = NoNumber x
PartsOfFloat x Nothing = IsExactly x (whole (pos 0))
PartsOfFloat x (Number negative digits shift) = NumberParts x negative digits shift

-- a finite posit's float: its exact value, and +0.0 for zero
pub record ExactFloat (n es p : ℕ) (x : Float) : Type 0 where
  pub finite : Finite n p
  pub exactly : IsExactly x (value n es p)
  pub zero_is_plus : p ≡ 0 → x ≡ plus_zero

abbrev pub ToFloat : ℕ → ℕ → ℕ → Floated → Type 0
ToFloat n es p (Value x) = ExactFloat n es p x
ToFloat n es p Nar = p ≡ nar n

abbrev pub FloatingOf : ℕ → ℕ → ℕ → Result Floated Refusal → Type 0
FloatingOf n es p r = Answers (verdict_of_one n es p) (ToFloat n es p) r
