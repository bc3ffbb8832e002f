-- A number with a scale, a · 2^s: over 2^k for any k that makes s + k a natural number, so numbers of any two scales meet over one power.
use mathlib.Core.Path.{◌≡◌, refl, sym, ap, ◌∙◌}
use mathlib.Core.Logic.Iff
use mathlib.Core.Logic.{◌↔◌}
use mathlib.Core.List.{[], ◌∷◌}
use Prim.Native.Nat.{ℕ, ◌+◌, ◌^◌, ◌<◌}
use native.Mathlib.Omega.{arith}
use lib.Pow.{pow_pos, pow-lt}
use lib.IntN.{ℤ, pos, negsuc, neg_ℤ, ◌+ℤ◌, ◌-ℤ◌, ◌*ℤ◌, zero-*ℤ}
use lib.Signed.{◌≤ℤ◌, ◌<ℤ◌}
use Rattle.exact.specs.Whole.{power_above}
use Rattle.exact.specs.Fraction.{◌≤ᶠ◌, ◌<ᶠ◌, ◌≈◌, whole, over_power, scaled, negᶠ, ◌+ᶠ◌, ◌*ᶠ◌}
use Rattle.exact.proofs.Whole.{*ℤ_assoc, *ℤ_idr, +ℤ_*ℤ, neg_ℤ_*ℤ}
use Rattle.exact.proofs.Parts.{up, dn}
use Rattle.exact.proofs.Ring.{atoms, quote, solved}
use Rattle.exact.proofs.Linear.{given, spread, parts}
use Rattle.exact.proofs.WholeOrder.{natural, difference_≥0, ≤ℤ_trans, ≤ℤ_of_≡, ≤ℤ_of_<ℤ, ≤ℤ_<ℤ_trans, pos_≤ℤ, pos_<ℤ}
use Rattle.exact.proofs.Certificate.{*ℤ_mono, *ℤ_mono_<, *ℤ_≤ℤ, *ℤ_<ℤ, *ℤ_≡}
use Rattle.exact.proofs.Order.{◌⨾◌, ≈_of_parts, ≈_trans, ≈_sym, ≈_refl, ≤ᶠ_≈, <ᶠ_≈, ≤ᶠ_respects, <ᶠ_respects, ≈_respects}
use Rattle.exact.proofs.Sum.{negᶠ_cong, +ᶠ_cong}
use Rattle.exact.proofs.Sign.{≈0}
use Rattle.exact.proofs.Product.{*ᶠ_cong}
use Rattle.exact.proofs.OverPower.{pos_pow, over_power_≤ᶠ, over_power_<ᶠ, over_power_≈, over_power_+ᶠ, over_power_*ᶠ}

-- ---- over a power
twice_shifted : (a : ℤ) (i j : ℕ) → a *ℤ pos (2 ^ i) *ℤ pos (2 ^ j) ≡ a *ℤ pos (2 ^ (i + j))
twice_shifted a i j = *ℤ_assoc a (pos (2 ^ i)) (pos (2 ^ j)) ∙ ap (λ (z : ℤ). a *ℤ z) (sym (pos_pow i j))

pub scaled_is : (a s : ℤ) → scaled a s ≈ over_power (a *ℤ pos (2 ^ up s)) (dn s)
unfolding up dn
scaled_is a (pos s) = ≈_of_parts refl refl
scaled_is a (negsuc s) = ≈_of_parts (sym (*ℤ_idr a)) refl

pub scaled_over : (a s : ℤ) (k m : ℕ) → s +ℤ pos k ≡ pos m → scaled a s ≈ over_power (a *ℤ pos (2 ^ m)) k
scaled_over a s k m e = ≈_trans (scaled_is a s)
    (record { cross = twice_shifted a (up s) k ∙ ap (λ (n : ℕ). a *ℤ pos (2 ^ n)) exponent ∙ sym (twice_shifted a m (dn s)) })
  where
    exponent : up s + k ≡ m + dn s
    exponent = given e (simp spread (simp parts (omega arith)))

pub scaled_zero_scale : (a : ℤ) → scaled a (pos 0) ≈ whole a
scaled_zero_scale a = ≈_of_parts (*ℤ_idr a) refl

pub scaled_down : (a : ℤ) (k : ℕ) → scaled a (neg_ℤ (pos k)) ≈ over_power a k
scaled_down a k = ≈_trans (scaled_over a (neg_ℤ (pos k)) k 0 (simp spread (simp parts (omega arith)))) (≈_of_parts (*ℤ_idr a) refl)

-- ---- a power of two moves between number and scale
pub scaled_shift : (a s : ℤ) (j : ℕ) → scaled (a *ℤ pos (2 ^ j)) s ≈ scaled a (s +ℤ pos j)
scaled_shift a s j =
    scaled_is (a *ℤ pos (2 ^ j)) s
    ⨾ ≈_of_parts (twice_shifted a j (up s)) refl
    ⨾ ≈_sym (scaled_over a (s +ℤ pos j) (dn s) (j + up s) (simp spread (simp parts (omega arith))))

pub scaled_double : (a s : ℤ) → scaled (a *ℤ pos 2) s ≈ scaled a (s +ℤ pos 1)
scaled_double a s = scaled_shift a s 1

-- ---- order: of one scale, and of two that meet over 2^k
pub scaled_≤ᶠ : (s : ℤ) {a b : ℤ} → (scaled a s ≤ᶠ scaled b s) ↔ (a ≤ℤ b)
scaled_≤ᶠ s {a} {b} = Iff.trans (≤ᶠ_respects (scaled_is a s) (scaled_is b s)) (Iff.trans (over_power_≤ᶠ (dn s)) (*ℤ_≤ℤ (power_above (up s))))

pub scaled_<ᶠ : (s : ℤ) {a b : ℤ} → (scaled a s <ᶠ scaled b s) ↔ (a <ℤ b)
scaled_<ᶠ s {a} {b} = Iff.trans (<ᶠ_respects (scaled_is a s) (scaled_is b s)) (Iff.trans (over_power_<ᶠ (dn s)) (*ℤ_<ℤ (power_above (up s))))

pub scaled_≈ : (s : ℤ) {a b : ℤ} → (scaled a s ≈ scaled b s) ↔ (a ≡ b)
scaled_≈ s {a} {b} = Iff.trans (≈_respects (scaled_is a s) (scaled_is b s)) (Iff.trans (over_power_≈ (dn s)) (*ℤ_≡ (power_above (up s))))

pub scaled_meet_≤ᶠ : (a s b t : ℤ) (k m n : ℕ) → s +ℤ pos k ≡ pos m → t +ℤ pos k ≡ pos n → (scaled a s ≤ᶠ scaled b t) ↔ ((a *ℤ pos (2 ^ m)) ≤ℤ (b *ℤ pos (2 ^ n)))
scaled_meet_≤ᶠ a s b t k m n d e = Iff.trans (≤ᶠ_respects (scaled_over a s k m d) (scaled_over b t k n e)) (over_power_≤ᶠ k)

pub scaled_meet_<ᶠ : (a s b t : ℤ) (k m n : ℕ) → s +ℤ pos k ≡ pos m → t +ℤ pos k ≡ pos n → (scaled a s <ᶠ scaled b t) ↔ ((a *ℤ pos (2 ^ m)) <ℤ (b *ℤ pos (2 ^ n)))
scaled_meet_<ᶠ a s b t k m n d e = Iff.trans (<ᶠ_respects (scaled_over a s k m d) (scaled_over b t k n e)) (over_power_<ᶠ k)

pub scaled_zero : (s : ℤ) → scaled (pos 0) s ≈ whole (pos 0)
scaled_zero (pos s) = ≈0.1 (zero-*ℤ (pos (2 ^ s)))
scaled_zero (negsuc s) = ≈0.1 refl

pub scaled_>0 : (s : ℤ) {a : ℤ} → (whole (pos 0) <ᶠ scaled a s) ↔ (pos 0 <ℤ a)
scaled_>0 s {a} = Iff.trans (<ᶠ_respects (≈_sym (scaled_zero s)) (≈_refl (scaled a s))) (scaled_<ᶠ s)

pub scaled_<0 : (s : ℤ) {a : ℤ} → (scaled a s <ᶠ whole (pos 0)) ↔ (a <ℤ pos 0)
scaled_<0 s {a} = Iff.trans (<ᶠ_respects (≈_refl (scaled a s)) (≈_sym (scaled_zero s))) (scaled_<ᶠ s)

-- ---- a greater scale
pub scaled_lower : (a s t : ℤ) (j : ℕ) → t -ℤ s ≡ pos j → scaled (a *ℤ pos (2 ^ j)) s ≈ scaled a t
scaled_lower a s t j e = rw same (scaled_shift a s j)
  where
    same : t ≡ s +ℤ pos j
    same = given e (simp spread (simp parts (omega arith)))

pub scaled_mono : {a s t : ℤ} → pos 0 ≤ℤ a → s ≤ℤ t → scaled a s ≤ᶠ scaled a t
scaled_mono {a} {s} {t} h k =
    let (j, e) = natural (t -ℤ s) (difference_≥0.1 k) in
    ≤ᶠ_≈ ((scaled_≤ᶠ s).1 (≤ℤ_trans (≤ℤ_of_≡ (sym (*ℤ_idr a))) (*ℤ_mono h (pos_≤ℤ.1 (pow_pos j))))) (scaled_lower a s t j e)

pub scaled_mono_< : {a s t : ℤ} → pos 0 <ℤ a → s <ℤ t → scaled a s <ᶠ scaled a t
scaled_mono_< {a} {s} {t} h k =
    let (j, e) = natural (t -ℤ s) (difference_≥0.1 (≤ℤ_of_<ℤ k)) in
    <ᶠ_≈ ((scaled_<ᶠ s).1 (≤ℤ_<ℤ_trans (≤ℤ_of_≡ (sym (*ℤ_idr a))) (*ℤ_mono_< h (pos_<ℤ.1 (pow-lt (farther j e)))))) (scaled_lower a s t j e)
  where
    farther : (j : ℕ) → t -ℤ s ≡ pos j → 0 < j
    farther j e = given e (given k (simp spread (simp parts (omega arith))))

-- ---- sum, product and sign
pub scaled_+ᶠ : (s a b : ℤ) → (scaled a s +ᶠ scaled b s) ≈ scaled (a +ℤ b) s
scaled_+ᶠ s a b =
    +ᶠ_cong (scaled_is a s) (scaled_is b s)
    ⨾ over_power_+ᶠ (dn s) (a *ℤ pos (2 ^ up s)) (b *ℤ pos (2 ^ up s))
    ⨾ ≈_of_parts (sym (+ℤ_*ℤ a b (pos (2 ^ up s)))) refl
    ⨾ ≈_sym (scaled_is (a +ℤ b) s)

pub scaled_negᶠ : (s a : ℤ) → negᶠ (scaled a s) ≈ scaled (neg_ℤ a) s
scaled_negᶠ s a = negᶠ_cong (scaled_is a s) ⨾ ≈_of_parts (sym (neg_ℤ_*ℤ a (pos (2 ^ up s)))) refl ⨾ ≈_sym (scaled_is (neg_ℤ a) s)

pub scaled_*ᶠ : (s t a b : ℤ) → (scaled a s *ᶠ scaled b t) ≈ scaled (a *ℤ b) (s +ℤ t)
scaled_*ᶠ s t a b =
    *ᶠ_cong (scaled_is a s) (scaled_is b t)
    ⨾ over_power_*ᶠ (dn s) (dn t) (a *ℤ pos (2 ^ up s)) (b *ℤ pos (2 ^ up t))
    ⨾ ≈_of_parts (together (pos (2 ^ up s)) (pos (2 ^ up t)) ∙ ap (λ (z : ℤ). a *ℤ b *ℤ z) (sym (pos_pow (up s) (up t)))) refl
    ⨾ ≈_sym (scaled_over (a *ℤ b) (s +ℤ t) (dn s + dn t) (up s + up t) (simp spread (simp parts (omega arith))))
  where
    together : (p q : ℤ) → a *ℤ p *ℤ (b *ℤ q) ≡ a *ℤ b *ℤ (p *ℤ q)
    together p q = atoms (a ∷ b ∷ p ∷ q ∷ []) λ σ r. simp (quote, r 0, r 1, r 2, r 3) (solved _ _ _ tt)
