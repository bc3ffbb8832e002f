-- Behind run and closing bit stand w bits t. Padded by es zeros they are one number t·2^es, whose quotient by 2^w is the exponent and whose
-- remainder over 2^w is the fraction, whether or not the exponent is cut.
use Rattle.std.proofs.Common.{◌≡◌, ℕ, zero, suc, ◌+◌, ◌-◌, ◌*◌, ◌/◌, ◌%◌, ◌^◌, ◌<◌, ◌≤◌, min, sym, refl, ap, ◌∙◌, lt_irrefl, mul_assoc, sub-add_cancel, le-mul_of_pos_right, div-one, mul-div_cancel, arith, pow_pos, pow-add}
use native.Mathlib.Nat.{min-eq_left, min-eq_right, sub_self}
use native.Mathlib.Nat.{mul-div-mul_right, mul-mod_left, mod-one}
use native.Mathlib.Decide.{dec_le}
use lib.Arith.{mod-mul}
use lib.Pow.{mod-mod-pow}
use Rattle.posit.specs.Reading.{run, run_bit, run_length, rest, exponent, fraction_bits, fraction}
use Rattle.posit.specs.Value.{scale_above, multiple}
use Rattle.posit.proofs.Growth.{G}

-- ---- the padded tail, where the exponent fits and where it is cut
record Padded (es w t f c : ℕ) : Type 0 where
  quotient : t / 2 ^ f * 2 ^ c ≡ t * 2 ^ es / 2 ^ w
  remainder : (2 ^ f + t % 2 ^ f) * 2 ^ w ≡ 2 ^ f * (2 ^ w + t * 2 ^ es % 2 ^ w)

shifted_mod : (t es f : ℕ) → t * 2 ^ es % (2 ^ f * 2 ^ es) ≡ t % 2 ^ f * 2 ^ es
shifted_mod t es f =
    mod-mul (t * 2 ^ es) (pow_pos f) (pow_pos es) ∙ rw (mul-div_cancel t (pow_pos es), mul-mod_left t (2 ^ es)) (omega arith)

fits : (es f t : ℕ) → Padded es (f + es) t f 0
fits es f t =
    record {
      quotient = rw (pow-add 2 f es, mul-div-mul_right t (2 ^ f) (pow_pos es)) (omega arith);
      remainder = rw (pow-add 2 f es, shifted_mod t es f) (omega arith);
    }

cut : (c w t : ℕ) → Padded (c + w) w t 0 c
cut c w t =
    record {
      quotient = rw (pow-add 2 c w, ← mul_assoc t (2 ^ c) (2 ^ w), mul-div_cancel (t * 2 ^ c) (pow_pos w), div-one);
      remainder = rw (pow-add 2 c w, ← mul_assoc t (2 ^ c) (2 ^ w), mul-mod_left (t * 2 ^ c) (2 ^ w), mod-one) (omega arith);
    }

by_room : (es w t : ℕ) → Dec (es ≤ w) → Padded es w t (w - min es w) (es - min es w)
by_room es w t (yes h) = rw (min-eq_left h, sub_self es) (rw (sub-add_cancel h) at (fits es (w - es) t))
by_room es w t (no h) = let l : w ≤ es = omega arith in rw (min-eq_right l, sub_self w) (rw (sub-add_cancel l) at (cut (es - w) w t))

padded : (es w t : ℕ) → Padded es w t (w - min es w) (es - min es w)
padded es w t = by_room es w t (dec_le es w)

-- ---- the whole multiple, times 2^w
unscaled : (s f F w R : ℕ) → f ≤ s → (2 ^ f + F) * 2 ^ w ≡ 2 ^ f * R → 2 ^ (s - f) * (2 ^ f + F) * 2 ^ w ≡ 2 ^ s * R
unscaled s f F w R l e =
    mul_assoc (2 ^ (s - f)) (2 ^ f + F) (2 ^ w) ∙ ap (λ (n : ℕ). 2 ^ (s - f) * n) e ∙ sym (mul_assoc (2 ^ (s - f)) (2 ^ f) R)
    ∙ ap (λ (n : ℕ). n * R) (sym (pow-add 2 (s - f) f) ∙ ap (λ (n : ℕ). 2 ^ n) (sub-add_cancel l))

pub multiple_above_zero : (b es p : ℕ) → 0 < p → multiple b es p ≡ 2 ^ (scale_above b es p - fraction_bits b es p) * (2 ^ fraction_bits b es p + fraction b es p)
unfolding multiple
multiple_above_zero b es zero h = absurd (lt_irrefl 0 h)
multiple_above_zero b es (suc p) h = refl

-- ---- the pattern p of b bits starts with a run of r bits x; behind the closing bit stand the w bits t
pub record Reads (b p x r w t : ℕ) : Type 0 where
  pub bit_is : run_bit b p ≡ x
  pub length_is : run_length b p ≡ r
  pub rest_is : rest b p ≡ w
  pub tail_is : p % 2 ^ w ≡ t

pub reads : {b p x r w t : ℕ} → run_bit b p ≡ x → run x b p ≡ r → b - (r + 1) ≡ w → p % 2 ^ w ≡ t → Reads b p x r w t
reads {b} {p} e l k m = record { bit_is = e; length_is = rw e l; rest_is = rw (e, l) k; tail_is = m }

module _ (es : ℕ) {b p x r w t : ℕ} (o : Reads b p x r w t) where
  pub fraction_bits_is : fraction_bits b es p ≡ w - min es w
  fraction_bits_is = rw o.rest_is

  pub fraction_is : fraction b es p ≡ t % 2 ^ (w - min es w)
  fraction_is =
      let e : min es w + (w - min es w) ≡ w = omega arith in
      rw (o.rest_is, ← o.tail_is) (sym (rw e at (mod-mod-pow p (min es w) (w - min es w))))

  pub exponent_is : exponent b es p ≡ t * 2 ^ es / 2 ^ w
  exponent_is = rw (o.rest_is, o.tail_is) (padded es w t).quotient

  -- the value, where the scale is counted from k·2^es
  pub multiple_is :
      (k : ℕ) → 0 < p → w ≤ k → scale_above b es p ≡ k * 2 ^ es + exponent b es p → multiple b es p * 2 ^ w ≡ 2 ^ (k * 2 ^ es) * G w (t * 2 ^ es)
  unfolding G
  multiple_is k h l e =
      ap (λ (n : ℕ). n * 2 ^ w) (multiple_above_zero b es p h ∙ rw (e, exponent_is, fraction_is, fraction_bits_is))
      ∙ unscaled (k * 2 ^ es + t * 2 ^ es / 2 ^ w) (w - min es w) (t % 2 ^ (w - min es w)) w (2 ^ w + t * 2 ^ es % 2 ^ w)
      (omega (arith, le-mul_of_pos_right k (pow_pos es))) (padded es w t).remainder
      ∙ rw (pow-add 2 (k * 2 ^ es) (t * 2 ^ es / 2 ^ w)) (mul_assoc (2 ^ (k * 2 ^ es)) (2 ^ (t * 2 ^ es / 2 ^ w)) (2 ^ w + t * 2 ^ es % 2 ^ w))

-- ---- the scale: for r zeros b - 1 - r, for r ones b - 1 + (r - 1), times 2^es, and the exponent
pub scale_of_zeros :
    (es k : ℕ) {b p r w t : ℕ} → Reads b p 0 r w t → b - 1 - r ≡ k → scale_above b es p ≡ k * 2 ^ es + exponent b es p
scale_of_zeros es k o e = rw (o.length_is, o.bit_is, e)

pub scale_of_ones :
    (es k : ℕ) {b p r w t : ℕ} → Reads b p 1 r w t → b - 1 + (r - 1) ≡ k → scale_above b es p ≡ k * 2 ^ es + exponent b es p
scale_of_ones es k o e = rw (o.length_is, o.bit_is, e)
