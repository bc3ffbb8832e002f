-- The sign of an exact number: it is right because a numerator is 0, above 0 or the negation of one above 0, and the denominator is above 0.
use Rattle.std.proofs.Common.{◌≡◌, ℕ, zero, suc, ◌^◌, ◌<◌, ℤ, pos, negsuc, neg_ℤ, nat_abs, ◌<ℤ◌, sym, refl, ap, zero-lt-suc}
use lib.IntN.{neg_ℤ-neg_ℤ}
use Rattle.exact.specs.Whole.{above_zero}
use Rattle.exact.specs.Fraction.{Fraction, ◌<ᶠ◌, ◌≈◌, whole, negᶠ}
use Rattle.exact.proofs.Sign.{>0, ≈0}
use Rattle.posit.specs.Format.{negated}
use Rattle.posit.specs.Rounding.{size, with_sign_of}
use Rattle.posit.specs.Nearest.{nearest, nearest_above}
use Rattle.posit.proofs.Mirror.{negated_negated}

pub negᶠ_twice : (x : Fraction) → negᶠ (negᶠ x) ≡ x
negᶠ_twice x = ap (λ (a : ℤ). record { num = a; den = x.den; above = x.above }) (neg_ℤ-neg_ℤ x.num)

-- x is above 0, so that it is its own size and has no sign to carry
pub record Above (x : Fraction) : Type 0 where
  pub positive : whole (pos 0) <ᶠ x
  pub own_size : size x ≡ x
  pub no_sign : (n p : ℕ) → with_sign_of n x p ≡ p
  pub computed : (n es : ℕ) → nearest n es x ≡ nearest_above n es x

-- the three signs, with what the computation does for each
pub data Sign (x : Fraction) : Type 0 where
  nought : x ≈ whole (pos 0) → size x ≡ x → ((n es : ℕ) → nearest n es x ≡ 0) → Sign x
  over : Above x → Sign x
  under : Above (negᶠ x) → ((n es : ℕ) → nearest n es x ≡ negated n (nearest n es (negᶠ x))) → Sign x

above_zero_is : (a : ℕ) (d : ℤ) (h : pos 0 <ℤ d) → Above (record { num = pos (suc a); den = d; above = h })
unfolding nearest
above_zero_is a d h = record {
  positive = >0.1 (above_zero (zero-lt-suc a));
  own_size = refl;
  no_sign = λ n p. refl;
  computed = λ n es. refl;
}

pub sign_of : (x : Fraction) → Sign x
unfolding nearest
sign_of x = by x.num x.den x.above
  where
    by : (a d : ℤ) (h : pos 0 <ℤ d) → Sign (record { num = a; den = d; above = h })
    by (pos zero) d h = nought (≈0.1 refl) refl (λ n es. refl)
    by (pos (suc a)) d h = over (above_zero_is a d h)
    by (negsuc a) d h = under (above_zero_is a d h) (λ n es. refl)

pub above_of : {x : Fraction} → whole (pos 0) <ᶠ x → Above x
above_of {x} h = by x.num x.den x.above (>0.0 h)
  where
    by : (a d : ℤ) (h : pos 0 <ℤ d) → pos 0 <ℤ a → Above (record { num = a; den = d; above = h })
    by (pos zero) d h l = absurd l.lt
    by (pos (suc a)) d h l = above_zero_is a d h
    by (negsuc a) d h l = absurd l.lt

-- ---- negation turns the sign
abs_negated : (a : ℤ) → nat_abs (neg_ℤ a) ≡ nat_abs a
abs_negated (pos zero) = refl
abs_negated (pos (suc a)) = refl
abs_negated (negsuc a) = refl

pub size_negated : (x : Fraction) → size (negᶠ x) ≡ size x
size_negated x = ap (λ (k : ℕ). record { num = pos k; den = x.den; above = x.above }) (abs_negated x.num)

pub sign_negated : (n : ℕ) (x : Fraction) {q : ℕ} → q < 2 ^ n → whole (pos 0) <ᶠ size x → with_sign_of n (negᶠ x) q ≡ negated n (with_sign_of n x q)
sign_negated n x {q} fits l = by x.num x.den x.above (>0.0 l)
  where
    by : (a d : ℤ) (h : pos 0 <ℤ d) → pos 0 <ℤ pos (nat_abs a) →
        with_sign_of n (record { num = neg_ℤ a; den = d; above = h }) q ≡ negated n (with_sign_of n (record { num = a; den = d; above = h }) q)
    by (pos zero) d h l = absurd l.lt
    by (pos (suc a)) d h l = refl
    by (negsuc a) d h l = sym (negated_negated n fits)
