-- What a decoded posit means: zero, NaR, or sign · g · 2^s, the fraction g a whole number and s a scale of either sign.
use Rattle.std.specs.Prelude.{◌≡◌, ℕ, ◌%◌, Bool, true, false, ◌≢◌, ℤ, pos, neg_ℤ, Result}
use Rattle.exact.specs.Fraction.{Fraction, ◌≈◌, scaled}
use Rattle.posit.specs.declared.decoded.Decoded.{Decoded}
use Rattle.posit.specs.declared.decoded.Decoded.TheVariants.{Zero, Nar, Finite}
use Rattle.call.specs.declared.refusal.Refusal.{Refusal}
use Rattle.call.specs.Verdict.{Answers}
use Rattle.posit.specs.Refusal.{verdict_of_format, verdict_of_one}
use Rattle.posit.specs.Format as Format
use Rattle.posit.specs.Format.{nar}
use Rattle.posit.specs.Value.{value}
use Rattle.posit.specs.Rounding.{Rounds}

-- a natural number with a sign
abbrev pub signed_whole : Bool → ℕ → ℤ
signed_whole true g = neg_ℤ (pos g)
signed_whole false g = pos g

-- sign · g · 2^s
abbrev pub finite_value : Bool → ℤ → ℕ → Fraction
finite_value negative s g = scaled (signed_whole negative g) s

-- a finite posit that is not 0, with the one sign, scale and odd fraction that mean its value
pub record OddForm (n es p : ℕ) (negative : Bool) (s : ℤ) (g : ℕ) : Type 0 where
  pub finite : Format.Finite n p
  pub not_zero : p ≢ 0
  pub odd : g % 2 ≡ 1
  pub means : finite_value negative s g ≈ value n es p

-- d is the posit p decoded
abbrev pub Decodes : ℕ → ℕ → ℕ → Decoded → Type 0
Decodes n es p Zero = p ≡ 0
Decodes n es p Nar = p ≡ nar n
Decodes n es p (Finite negative s g) = OddForm n es p negative s g

-- p is d encoded: zero is 0, NaR is NaR, any other is rounded; a fraction of 0 means 0
abbrev pub Encodes : ℕ → ℕ → Decoded → ℕ → Type 0
Encodes n es Zero p = p ≡ 0
Encodes n es Nar p = p ≡ nar n
Encodes n es (Finite negative s g) p = Rounds n es (finite_value negative s g) p

-- what `decode` answers
abbrev pub DecodingOf : ℕ → ℕ → ℕ → Result Decoded Refusal → Type 0
DecodingOf n es p r = Answers (verdict_of_one n es p) (Decodes n es p) r

-- what `encode` answers
abbrev pub EncodingOf : ℕ → ℕ → Decoded → Result ℕ Refusal → Type 0
EncodingOf n es d r = Answers (verdict_of_format n es) (Encodes n es d) r
