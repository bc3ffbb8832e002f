-- A posit has one decoded form, in every format: an odd number times a power of two is so in one way, and the sign is the value's.
use Rattle.std.proofs.Common.{◌≡◌, ℕ, zero, suc, ◌+◌, ◌-◌, ◌*◌, ◌%◌, ◌^◌, Bool, true, false, ℤ, pos, neg_ℤ, ◌<ℤ◌, refl, ap, lt_irrefl, arith, pow_pos}
use native.Mathlib.Nat.{pow-succ'}
use lib.IntN.{neg_ℤ-neg_ℤ}
use lib.Signed.{lt_z_yes}
use Rattle.exact.specs.Whole.{above_zero}
use Rattle.exact.specs.Fraction.{◌≈◌, scaled}
use Rattle.exact.proofs.Parts.{up, dn, same}
use Rattle.exact.proofs.Linear.{spread, parts}
use Rattle.exact.proofs.WholeOrder.{pos_inj}
use Rattle.exact.proofs.Order.{≈_trans, ≈_sym, ≈_respects, <ᶠ_≈, <ᶠ_trans, <ᶠ_irrefl}
use Rattle.exact.proofs.Sum.{negᶠ_cong}
use Rattle.exact.proofs.OverPower.{over_power_≈}
use Rattle.exact.proofs.Scaled.{scaled_over, scaled_negᶠ, scaled_>0, scaled_<0}
use Rattle.posit.specs.declared.decoded.Decoded.{Decoded}
use Rattle.posit.specs.declared.decoded.Decoded.TheVariants.{Zero, Nar, Finite}
use Rattle.posit.specs.Decoding.{Decodes, finite_value}

-- ---- an odd number times a power
pub odd_once : (i j g h : ℕ) → g % 2 ≡ 1 → h % 2 ≡ 1 → g * 2 ^ i ≡ h * 2 ^ j → (g ≡ h) × (i ≡ j)
odd_once zero zero g h a b e = (omega arith, refl)
odd_once zero (suc j) g h a b e = absurd (lt_irrefl 0 (omega (arith, ap (λ (x : ℕ). h * x) (pow-succ' 2 j))))
odd_once (suc i) zero g h a b e = absurd (lt_irrefl 0 (omega (arith, ap (λ (x : ℕ). g * x) (pow-succ' 2 i))))
odd_once (suc i) (suc j) g h a b e =
    let (same_odd, same_power) = odd_once i j g h a b (omega (arith, ap (λ (x : ℕ). g * x) (pow-succ' 2 i), ap (λ (x : ℕ). h * x) (pow-succ' 2 j))) in
    (same_odd, ap suc same_power)

-- with scales of either sign: they meet over a power
module _ {g h : ℕ} (s t : ℤ) (a : g % 2 ≡ 1) (b : h % 2 ≡ 1) where
  pub magnitude_once : scaled (pos g) s ≈ scaled (pos h) t → (g ≡ h) × (s ≡ t)
  magnitude_once e =
      let k = dn s + dn t in
      let left = scaled_over (pos g) s k (up s + dn t) (simp spread (simp parts (omega arith))) in
      let right = scaled_over (pos h) t k (up t + dn s) (simp spread (simp parts (omega arith))) in
      let (same_odd, same_scale) = odd_once (up s + dn t) (up t + dn s) g h a b (pos_inj ((over_power_≈ k).0 ((≈_respects left right).0 e))) in
      (same_odd, same s t same_scale)

-- ---- the sign
negative_less : (g : ℕ) → g % 2 ≡ 1 → neg_ℤ (pos g) <ℤ pos 0
negative_less zero a = absurd (lt_irrefl 0 (omega arith))
negative_less (suc g) a = lt_z_yes tt

module _ (s t : ℤ) (g h : ℕ) (a : g % 2 ≡ 1) (b : h % 2 ≡ 1) where
  signs_differ : finite_value true s g ≈ finite_value false t h → ⊥
  signs_differ e =
      <ᶠ_irrefl (<ᶠ_≈ (<ᶠ_trans ((scaled_<0 s).1 (negative_less g a)) ((scaled_>0 t).1 (above_zero (omega arith)))) (≈_sym e))

  -- both negative: their magnitudes are equal
  unsigned : finite_value true s g ≈ finite_value true t h → scaled (pos g) s ≈ scaled (pos h) t
  unsigned e = rw (neg_ℤ-neg_ℤ (pos g), neg_ℤ-neg_ℤ (pos h)) at ((≈_respects (scaled_negᶠ s (neg_ℤ (pos g))) (scaled_negᶠ t (neg_ℤ (pos h)))).0 (negᶠ_cong e))

finite_once : (c d : Bool) (s t : ℤ) (g h : ℕ) → g % 2 ≡ 1 → h % 2 ≡ 1 → finite_value c s g ≈ finite_value d t h → Finite c s g ≡ Finite d t h
finite_once true true s t g h a b e = let (same_odd, same_scale) = magnitude_once s t a b (unsigned s t g h a b e) in cc
finite_once true false s t g h a b e = absurd (signs_differ s t g h a b e)
finite_once false true s t g h a b e = absurd (signs_differ t s h g b a (≈_sym e))
finite_once false false s t g h a b e = let (same_odd, same_scale) = magnitude_once s t a b e in cc

-- ---- the theorem
pub one_form : (n es p : ℕ) (d e : Decoded) → Decodes n es p d → Decodes n es p e → d ≡ e
one_form n es p Zero Zero x y = refl
one_form n es p Zero Nar x y = absurd (lt_irrefl 0 (omega (arith, pow_pos (n - 1))))
one_form n es p Zero (Finite b s g) x y = absurd (y.not_zero x)
one_form n es p Nar Zero x y = absurd (lt_irrefl 0 (omega (arith, pow_pos (n - 1))))
one_form n es p Nar Nar x y = refl
one_form n es p Nar (Finite b s g) x y = absurd (y.finite.not_nar x)
one_form n es p (Finite b s g) Zero x y = absurd (x.not_zero y)
one_form n es p (Finite b s g) Nar x y = absurd (x.finite.not_nar y)
one_form n es p (Finite b s g) (Finite c t h) x y = finite_once b c s t g h x.odd y.odd (≈_trans x.means (≈_sym y.means))
