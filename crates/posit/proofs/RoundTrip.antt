-- Decoding and encoding undo each other: it is right because a decoded posit means the value that it was decoded from, and a posit's own value is
-- rounded to that posit alone.
use Rattle.std.proofs.Common.{◌≡◌, ℕ, ◌≤◌, Bool, ℤ, sym, ◌∙◌, subst}
use Rattle.exact.specs.Fraction.{◌≈◌}
use Rattle.posit.specs.declared.decoded.Decoded.{Decoded}
use Rattle.posit.specs.declared.decoded.Decoded.TheVariants.{Zero, Nar, Finite}
use Rattle.posit.specs.Format as Format
use Rattle.posit.specs.Value.{value}
use Rattle.posit.specs.Rounding.{posit_gives_itself}
use Rattle.posit.specs.Decoding.{finite_value, Decodes, Encodes}
use Rattle.posit.proofs.OneAnswer.{same_answer}

module _ (n es : ℕ) (wide : 3 ≤ n) where
  -- decode, then encode: the posit that was decoded, zero and NaR included
  pub decode_then_encode : (d : Decoded) {p q : ℕ} → Decodes n es p d → Encodes n es d q → q ≡ p
  decode_then_encode Zero decoded encoded = encoded ∙ sym decoded
  decode_then_encode Nar decoded encoded = encoded ∙ sym decoded
  decode_then_encode (Finite negative s g) decoded encoded =
      same_answer n es wide encoded (posit_gives_itself decoded.finite decoded.means)

  module _ {p : ℕ} (finite : Format.Finite n p) (negative : Bool) (s : ℤ) (g : ℕ) (means : finite_value negative s g ≈ value n es p) where
    -- whatever sign, scale and fraction mean the value of a posit, odd or not, are encoded as that posit
    pub encode_exact : {q : ℕ} → Encodes n es (Finite negative s g) q → q ≡ p
    encode_exact encoded = same_answer n es wide encoded (posit_gives_itself finite means)

    -- encode, then decode: what decoding that posit gives, of the same value and with an odd fraction
    pub encode_then_decode : (d : Decoded) {q : ℕ} → Encodes n es (Finite negative s g) q → Decodes n es q d → Decodes n es p d
    encode_then_decode d encoded decoded = subst (λ (x : ℕ). Decodes n es x d) (encode_exact encoded) decoded
