-- What the bits of a 64-bit float are read as: sign, exponent and digits are quotients and remainders, and the digits with their exponent, counted in
-- units of 2^-1074, are the float's value; a magnitude knows them exactly, and the posit that they are rounded to is the float's.
use Rattle.std.proofs.Common.{◌≡◌, ℕ, zero, suc, ◌+◌, ◌-◌, ◌*◌, ◌/◌, ◌%◌, ◌^◌, ◌<◌, Bool, true, false, cond, eqb, leb, ℤ, pos, negsuc, sym, refl, ap, ◌∙◌, subst, lt_irrefl, mul-one, arith, eq-eqb, ne_eqb}
use lib.Ieee.{Float, nan, inf, fin, binary64, up, down, odd, of_fields, of_bits}
use lib.Ieee.Exact.{HasValue, odd_sign}
use Rattle.exact.specs.Fraction.{Fraction, ◌≈◌, whole, over_power}
use Rattle.exact.proofs.Order.{≈_sym, ≈_trans}
use Rattle.exact.proofs.Sum.{negᶠ_cong}
use Rattle.exact.proofs.Scaled.{scaled_negᶠ, scaled_zero}
use Rattle.posit.specs.Format.{Format}
use Rattle.posit.specs.Rounding.{Rounds}
use Rattle.posit.specs.Decoding.{finite_value}
use Rattle.posit.specs.Magnitudes.{with_signᶠ}
use Rattle.posit.specs.declared.inner.float_bits.FloatParts.{FloatParts}
use Rattle.posit.specs.declared.inner.float_bits.FloatParts.TheVariants.{Infinite, Nothing, Number}
use Rattle.posit.specs.Floats.{IsExactly, FromFloat, of_digits, NoNumber, NumberParts, PartsOfFloat}
use Rattle.posit.proofs.OneAnswer.{rounds_respects}

-- ---- three fields
abbrev pub sign : ℕ → Bool
sign b = leb (2 ^ 63) b

abbrev pub field : ℕ → ℕ
field b = b % 2 ^ 63 / 2 ^ 52

abbrev pub digits : ℕ → ℕ
digits b = b % 2 ^ 52

pub read : (b : ℕ) → of_bits binary64 b ≡ of_fields binary64 (sign b) (field b) (digits b)
unfolding of_bits
read b = refl

-- a field of 0 has no leading digit
small_read : (s : Bool) (x t : ℕ) → x ≡ 0 → of_fields binary64 s x t ≡ odd 53 s t 0 1074
unfolding of_fields
small_read s zero t e = refl
small_read s (suc x) t e = absurd (lt_irrefl 0 (omega arith))

ones_read : (s : Bool) (x t : ℕ) → x ≡ 2047 → of_fields binary64 s x t ≡ cond (eqb t 0) (inf s) nan
unfolding of_fields
ones_read s zero t e = absurd (lt_irrefl 0 (omega arith))
ones_read s (suc x) t e = rw (eq-eqb (suc x) 2047 e)

pub normal_read : (s : Bool) (x t : ℕ) → 0 < x → x < 2047 → of_fields binary64 s x t ≡ odd 53 s (2 ^ 52 + t) (x - 1) 1074
unfolding of_fields
normal_read s zero t h l = absurd (lt_irrefl 0 h)
normal_read s (suc x) t h l =
    let e : suc x - 1 ≡ x = omega arith in
    rw (ne_eqb (suc x) 2047 (omega arith), e)

-- ---- a float's value
value_above : (m : ℕ) (e : ℤ) (a l : ℕ) → m * up e * 2 ^ l ≡ a * down e → finite_value false e m ≈ over_power (pos a) l
value_above m (pos k) a l h = record { cross = ap pos h }
value_above m (negsuc k) a l h = record { cross = ap pos (ap (λ (x : ℕ). x * 2 ^ l) (sym (mul-one m)) ∙ h) }

value_is : (s : Bool) (m : ℕ) (e : ℤ) (a l : ℕ) → m * up e * 2 ^ l ≡ a * down e → finite_value s e m ≈ with_signᶠ s (over_power (pos a) l)
value_is true m e a l h = ≈_trans (≈_sym (scaled_negᶠ e (pos m))) (negᶠ_cong (value_above m e a l h))
value_is false m e a l h = value_above m e a l h

pub value_of : (x : Float) (s : Bool) (a l : ℕ) → HasValue x s a (2 ^ l) → IsExactly x (with_signᶠ s (over_power (pos a) l))
value_of nan s a l h = absurd h
value_of (inf t) s a l h = absurd h
value_of (fin t m e) s a l h =
    subst (λ (b : Bool). finite_value t e m ≈ with_signᶠ b (over_power (pos a) l)) h.0 (value_is t m e a l h.1)

digits_exactly : (s : Bool) (d k : ℕ) → IsExactly (odd 53 s d k 1074) (with_signᶠ s (of_digits d k))
digits_exactly s d k = value_of (odd 53 s d k 1074) s (d * 2 ^ k) 1074 (odd_sign 53 s d k 1074)

zero_exactly : (s : Bool) → IsExactly (odd 53 s 0 0 1074) (whole (pos 0))
unfolding odd
zero_exactly true = scaled_zero (pos 0)
zero_exactly false = scaled_zero (pos 0)

-- an infinity or a NaN
no_number : (s no_digits : Bool) → NoNumber (cond no_digits (inf s) nan)
no_number s true = tt
no_number s false = tt

-- ---- the parts that the bits say
module _ (b : ℕ) where
  pub ones_parts : field b ≡ 2047 → NoNumber (of_bits binary64 b)
  ones_parts h = rw (read b, ones_read (sign b) (field b) (digits b) h) (no_number (sign b) (eqb (digits b) 0))

  pub nothing_parts : b % 2 ^ 63 ≡ 0 → IsExactly (of_bits binary64 b) (whole (pos 0))
  nothing_parts h =
      let no_field : field b ≡ 0 = omega arith in
      let no_digits : digits b ≡ 0 = omega arith in
      rw (read b, small_read (sign b) (field b) (digits b) no_field, no_digits) (zero_exactly (sign b))

  small_exactly : field b ≡ 0 → IsExactly (of_bits binary64 b) (with_signᶠ (sign b) (of_digits (b % 2 ^ 63) 0))
  small_exactly h =
      let same : digits b ≡ b % 2 ^ 63 = omega arith in
      rw (read b, small_read (sign b) (field b) (digits b) h, same) (digits_exactly (sign b) (b % 2 ^ 63) 0)

  pub small_parts : field b ≡ 0 → (b % 2 ^ 63 ≡ 0 → ⊥) → NumberParts (of_bits binary64 b) (sign b) (b % 2 ^ 63) 0
  small_parts h some = record { some = omega arith; few = omega arith; shift_fits = omega arith; exactly = small_exactly h }

  normal_exactly : 0 < field b → field b < 2047 → IsExactly (of_bits binary64 b) (with_signᶠ (sign b) (of_digits (2 ^ 52 + b % 2 ^ 63 % 2 ^ 52) (field b - 1)))
  normal_exactly some few =
      let same : digits b ≡ b % 2 ^ 63 % 2 ^ 52 = omega arith in
      rw (read b, normal_read (sign b) (field b) (digits b) some few, same) (digits_exactly (sign b) (2 ^ 52 + b % 2 ^ 63 % 2 ^ 52) (field b - 1))

  pub normal_parts : 0 < field b → field b < 2047 → NumberParts (of_bits binary64 b) (sign b) (2 ^ 52 + b % 2 ^ 63 % 2 ^ 52) (field b - 1)
  normal_parts some few = record { some = omega arith; few = omega arith; shift_fits = omega arith; exactly = normal_exactly some few }

-- ---- digits as `locate` asks for them: few are moved up
-- ---- the posit that a float is rounded to, by its parts
module _ {n es : ℕ} (f : Format n es) where
  pub number_rounded : (x : Float) {z : Fraction} {p : ℕ} → IsExactly x z → Rounds n es z p → FromFloat n es x p
  number_rounded nan h r = absurd h
  number_rounded (inf s) h r = absurd h
  number_rounded (fin s m e) h r = rounds_respects n es f.wide_enough (≈_sym h) r

-- ---- the parts by their case
module _ (x : Float) {r : FloatParts} (h : PartsOfFloat x r) where
  pub is_infinite : r ≡ Infinite → NoNumber x
  is_infinite e = subst (PartsOfFloat x) e h

  pub is_nothing : r ≡ Nothing → IsExactly x (whole (pos 0))
  is_nothing e = subst (PartsOfFloat x) e h

  pub is_number : {negative : Bool} {d k : ℕ} → r ≡ Number negative d k → NumberParts x negative d k
  is_number e = subst (PartsOfFloat x) e h
