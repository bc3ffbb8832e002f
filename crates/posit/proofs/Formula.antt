-- The scale counted from minPos's is k·2^es + e and m more; so the multiple over 2^m is document 01's magnitude, 2^(k·2^es + e)·(1 + F/2^f).
use Rattle.std.proofs.Common.{◌≡◌, ℕ, zero, suc, ◌+◌, ◌-◌, ◌*◌, ◌^◌, ◌<◌, ◌≤◌, min, ℤ, pos, negsuc, ◌+ℤ◌, ◌*ℤ◌, neg_ℤ, sym, refl, ap, ◌∙◌, subst, lt_irrefl, one-mul, sub-add_cancel, le-mul_of_pos_right, arith, pow_pos, pow-add}
use Rattle.exact.specs.Fraction.{Fraction, negᶠ, over_power, scaled, ◌*ᶠ◌, ◌≈◌}
use Rattle.exact.proofs.Parts.{up, dn, up_pos, dn_pos, up_neg, dn_neg, up_negsuc, dn_negsuc, up_mul, dn_mul, sum_parts}
use Rattle.exact.proofs.Sum.{negᶠ_cong}
use Rattle.posit.specs.Format.{nar, m, negated}
use Rattle.posit.specs.Reading.{exponent, fraction_bits, fraction, regime, magnitude}
use Rattle.posit.specs.Value.{scale_above, multiple, units, value}
use Rattle.posit.proofs.Tail.{Reads, multiple_above_zero, fraction_bits_is, scale_of_zeros, scale_of_ones}
use Rattle.posit.proofs.Shapes.{Shape, zeros, ones, all_ones, shape, zeros_read, ones_read, all_ones_read}
use Rattle.posit.proofs.Mirror.{nar_is_half, negated_positive, units_below, value_above}

-- ---- over 2^d, with the scale s counted d above S; or at the scale S itself, of either sign
powers : (s f R u v d : ℕ) → f ≤ s → s + v ≡ u + d → 2 ^ (s - f) * R * (2 ^ v * 2 ^ f) ≡ 2 ^ u * R * 2 ^ d
powers s f R u v d l e =
    let t : 2 ^ (s - f) * 2 ^ f * 2 ^ v ≡ 2 ^ u * 2 ^ d =
    ap (λ (n : ℕ). n * 2 ^ v) (sym (pow-add 2 (s - f) f) ∙ ap (λ (n : ℕ). 2 ^ n) (sub-add_cancel l)) ∙ sym (pow-add 2 s v)
    ∙ ap (λ (n : ℕ). 2 ^ n) e ∙ pow-add 2 u d
    in
    omega (arith, ap (λ (n : ℕ). n * R) t)

same_value :
    (S : ℤ) (s d f R : ℕ) → f ≤ s → s + dn S ≡ up S + d → over_power (pos (2 ^ (s - f) * R)) d ≈ (scaled (pos 1) S *ᶠ over_power (pos R) f)
same_value (pos a) s d f R l e =
    record { cross = ap pos (powers s f R a 0 d l (rw (up_pos, dn_pos) at e) ∙ ap (λ (n : ℕ). n * R * 2 ^ d) (sym (one-mul (2 ^ a)))) }
same_value (negsuc a) s d f R l e = record { cross = ap pos (powers s f R 0 (suc a) d l (rw (up_negsuc, dn_negsuc) at e)) }

-- the scale j·X + e is k·X + e counted d·X higher, where j is k counted d higher
counted : (k : ℤ) (X e j d : ℕ) → j + dn k ≡ up k + d → j * X + e + dn (k *ℤ pos X +ℤ pos e) ≡ up (k *ℤ pos X +ℤ pos e) + d * X
counted k X e j d h = omega (arith, ap (λ (n : ℕ). n * X) h, simp (up_mul, dn_mul, up_pos, dn_pos) at (sum_parts (k *ℤ pos X) (pos e)))

room : (w c j X e : ℕ) {f s : ℕ} → f ≡ w - c → w ≤ j → 0 < X → s ≡ j * X + e → f ≤ s
room w c j X e g l k h = omega (arith, le-mul_of_pos_right j k)

-- ---- a pattern that reads as a run and a tail, with k counted from minPos's as j
module _ (b es p j : ℕ) {x r w t : ℕ} (o : Reads b p x r w t) where
  enough : w ≤ j → scale_above b es p ≡ j * 2 ^ es + exponent b es p → fraction_bits b es p ≤ scale_above b es p
  enough l s = room w (min es w) j (2 ^ es) (exponent b es p) (fraction_bits_is es o) l (pow_pos es) s

  of_reads :
      0 < p → p < 2 ^ b → w ≤ j → scale_above b es p ≡ j * 2 ^ es + exponent b es p → j + dn (regime b p) ≡ up (regime b p) + (suc b - 2)
      → value (suc b) es p ≈ magnitude b es p
  of_reads z u l s h =
      let c : suc b - 1 ≡ b = omega arith in
      let S : ℤ = regime b p *ℤ pos (2 ^ es) +ℤ pos (exponent b es p) in
      let f : ℕ = fraction_bits b es p in
      let R : ℕ = 2 ^ f + fraction b es p in
      let e : units (suc b) es p ≡ pos (2 ^ (scale_above b es p - f) * R) =
      units_below (suc b) es (rw c u) ∙ ap pos (ap (λ (i : ℕ). multiple i es p) c ∙ multiple_above_zero b es p z)
      in
      subst (λ (y : ℤ). over_power y (m (suc b) es) ≈ magnitude b es p) (sym e)
      (same_value S (scale_above b es p) (m (suc b) es) f R (enough l s)
      (ap (λ (n : ℕ). n + dn S) s ∙ counted (regime b p) (2 ^ es) (exponent b es p) j (suc b - 2) h))

regime_of_zeros : {b p r w t : ℕ} → Reads b p 0 r w t → regime b p ≡ neg_ℤ (pos r)
regime_of_zeros o = rw (o.length_is, o.bit_is)

regime_of_ones : {b p r w t : ℕ} → Reads b p 1 r w t → regime b p ≡ pos (r - 1)
regime_of_ones o = rw (o.length_is, o.bit_is)

of_zeros : (b es p r w t : ℕ) → Reads b p 0 r w t → 0 < p → p < 2 ^ b → r + 1 + w ≡ b → value (suc b) es p ≈ magnitude b es p
of_zeros b es p r w t o z u e =
    of_reads b es p w o z u (omega arith) (scale_of_zeros es w o (omega arith))
    (rw (regime_of_zeros o, up_neg (pos r), dn_neg (pos r), up_pos, dn_pos) (omega arith))

of_ones : (b es p r w t : ℕ) → Reads b p 1 (suc r) w t → 0 < p → p < 2 ^ b → r + w < b → value (suc b) es p ≈ magnitude b es p
of_ones b es p r w t o z u e =
    of_reads b es p (b - 1 + (suc r - 1)) o z u (omega arith) (scale_of_ones es (b - 1 + (suc r - 1)) o refl)
    (rw (regime_of_ones o, up_pos, dn_pos) (omega arith))

by_shape : (b es p : ℕ) → 0 < p → p < 2 ^ b → Shape b p → value (suc b) es p ≈ magnitude b es p
by_shape b es p z u (zeros w t h l e) = of_zeros b es p (b - (w + 1)) w t (zeros_read b p w t h l e) z u (omega arith)
by_shape b es p z u (ones r w t h l e) = of_ones b es p r w t (ones_read b p r w t h l e) z u (omega arith)
by_shape zero es p z u (all_ones e) = absurd (lt_irrefl 0 (omega arith))
by_shape (suc c) es p z u (all_ones e) = of_ones (suc c) es p c 0 0 (all_ones_read c p e) z u (omega arith)

pub value_is_magnitude : (b es p : ℕ) → 0 < p → p < 2 ^ b → value (suc b) es p ≈ magnitude b es p
value_is_magnitude b es p z u = by_shape b es p z u (shape b p z u)

-- ---- and so for a posit of n bits: the sign is 1 below NaR and -1 above it
pub positive_value : (n es p : ℕ) → 1 ≤ n → 0 < p → p < nar n → value n es p ≈ magnitude (n - 1) es p
positive_value n es p k z u = let s : suc (n - 1) ≡ n = omega arith in rw s at (value_is_magnitude (n - 1) es p z u)

pub negative_value : (n es p : ℕ) → 1 ≤ n → nar n < p → p < 2 ^ n → value n es p ≈ negᶠ (magnitude (n - 1) es (negated n p))
negative_value n es p k h u =
    let e : negated n p ≡ 2 ^ n - p = negated_positive n (omega arith) u in
    let c : negᶠ (value n es (negated n p)) ≈ negᶠ (magnitude (n - 1) es (negated n p)) =
    negᶠ_cong (positive_value n es (negated n p) k (omega arith) (omega (arith, nar_is_half n k)))
    in
    subst (λ (x : Fraction). x ≈ negᶠ (magnitude (n - 1) es (negated n p))) (sym (value_above n es k h u)) c
