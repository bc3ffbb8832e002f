-- Where fraction · 2^scale lies: a scale of either sign is read back, widened and turned without loss, and the zero bits below the fraction are
-- taken off again by the power under it, so that the number located is the number meant.
use Rattle.std.proofs.Common.{◌≡◌, ℕ, zero, suc, ◌+◌, ◌*◌, ◌^◌, ◌<◌, true, false, T, ℤ, pos, negsuc, ◌-ℤ◌, neg_ℤ, nat_abs, sym, refl, ap, ◌∙◌, subst, mul-lt-mul_of_pos_right, arith, pow_pos, pow-add, w32, w64, SFits, to_z, of_z, ltb-true}
use lib.IntN.{+ℤ_idl}
use lib.Signed.{lt_z}
use mir.ValLaws.{to_z-of_z}
use Rattle.exact.specs.Fraction.{◌<ᶠ◌, ◌≈◌}
use Rattle.exact.proofs.Order.{≤ᶠ_of_≈, ≈_sym, ≈_trans, ≈_<ᶠ, <ᶠ_≈}
use Rattle.posit.specs.declared.inner.locate.Located.{Located}
use Rattle.posit.specs.Decoding.{finite_value}
use Rattle.posit.specs.Locating.{Locates, given}
use Rattle.posit.specs.Parts.{LocatesScaled}
use Rattle.posit.proofs.FromBrackets.{over_lt, over_same}

-- ---- the scale as the code reads it
abbrev pub read_back : ℤ → ℤ
read_back z = to_z w32 (of_z w32 z)

abbrev pub widened : ℤ → ℤ
widened z = to_z w64 (of_z w64 (read_back z))

abbrev pub turned : ℤ → ℤ
turned z = to_z w64 (of_z w64 (pos 0 -ℤ widened z))

wider : {z : ℤ} → SFits w32 z → SFits w64 z
wider f = record { sfits = omega (arith, f.sfits) }

negative_fits : (z : ℤ) → SFits w32 z → SFits w64 (neg_ℤ z)
negative_fits (pos zero) f = record { sfits = omega arith }
negative_fits (pos (suc k)) f = record { sfits = omega (arith, f.sfits) }
negative_fits (negsuc k) f = record { sfits = omega (arith, f.sfits) }

module _ (z : ℤ) (f : SFits w32 z) where
  read_back_says : read_back z ≡ z
  read_back_says = to_z-of_z w32 z f

  opposite : pos 0 -ℤ widened z ≡ neg_ℤ z
  opposite = ap (λ y. pos 0 -ℤ y) (ap (λ y. to_z w64 (of_z w64 y)) read_back_says ∙ to_z-of_z w64 z (wider f)) ∙ +ℤ_idl (neg_ℤ z)

  turned_is : turned z ≡ neg_ℤ z
  turned_is = ap (λ y. to_z w64 (of_z w64 y)) opposite ∙ to_z-of_z w64 (neg_ℤ z) (negative_fits z f)

-- ---- below 0 the opposite is a natural number, and otherwise the scale is
below_is : (z : ℤ) → SFits w32 z → lt_z z (pos 0) ≡ true → (k : ℕ) × (k < 2 ^ 31) × (z ≡ negsuc k)
below_is (pos k) f t = absurd (omega (arith, ltb-true k 0 t))
below_is (negsuc k) f t = (k, f.sfits, refl)

above_is : (z : ℤ) → SFits w32 z → lt_z z (pos 0) ≡ false → (k : ℕ) × (k < 2 ^ 31) × (z ≡ pos k)
above_is (pos k) f t = (k, f.sfits, refl)
above_is (negsuc k) f t = absurd (subst T t tt)

-- ---- what is located is what is meant
next_given : (g s a : ℕ) → given g s a <ᶠ given (g + 1) s a
next_given g s a =
    over_lt (g * 2 ^ s) a ((g + 1) * 2 ^ s) a
    (mul-lt-mul_of_pos_right (mul-lt-mul_of_pos_right {m = g} {n = g + 1} (omega arith) (pow_pos s)) (pow_pos a))

meant : {n es g s a : ℕ} (z : ℤ) (f : ℕ) {r : Located} → finite_value false z f ≈ given g s a → Locates n es g s a r.pattern r.exact → LocatesScaled n es z f r
meant {g = g} {s = s} {a = a} z f e l =
    record {
      floor = l.floor (finite_value false z f) (≤ᶠ_of_≈ (≈_sym e)) (≈_<ᶠ e (next_given g s a));
      hit = λ h. ≈_trans e (l.hit h);
      miss = λ h. <ᶠ_≈ (l.miss h) (≈_sym e);
    }

-- as many zero bits as the power 2^29 has
lower_value : (k f : ℕ) → finite_value false (negsuc k) f ≈ given (f * 2 ^ 29) 0 (suc k + 29)
lower_value k f = over_same f (suc k) (f * 2 ^ 29 * 2 ^ 0) (suc k + 29) (rw (pow-add 2 (suc k) 29) (omega arith))

higher_value : (k f : ℕ) → finite_value false (pos k) f ≈ given (f * 2 ^ 29) k 29
higher_value k f = record { cross = ap pos (omega arith) }

module _ (z : ℤ) (f : SFits w32 z) where
  module _ (t : lt_z (read_back z) (pos 0) ≡ true) where
    down : (k : ℕ) × (k < 2 ^ 31) × (z ≡ negsuc k) × (turned z ≡ pos (suc k))
    down = let (k, l, e) = below_is z f (subst (λ y. lt_z y (pos 0) ≡ true) (read_back_says z f) t) in (k, l, e, turned_is z f ∙ ap neg_ℤ e)

    pub scaled_down :
        {n es g : ℕ} {r : Located} → Locates n es (g * 2 ^ 29) 0 (nat_abs (turned z) + 29) r.pattern r.exact → LocatesScaled n es z g r
    scaled_down {n} {es} {g} {r} h =
        let (k, l, e, i) = down in
        meant z g (subst (λ y. finite_value false y g ≈ given (g * 2 ^ 29) 0 (suc k + 29)) (sym e) (lower_value k g))
        (subst (λ y. Locates n es (g * 2 ^ 29) 0 (nat_abs y + 29) r.pattern r.exact) i h)

  module _ (t : lt_z (read_back z) (pos 0) ≡ false) where
    up : (k : ℕ) × (k < 2 ^ 31) × (z ≡ pos k) × (read_back z ≡ pos k)
    up = let (k, l, e) = above_is z f (subst (λ y. lt_z y (pos 0) ≡ false) (read_back_says z f) t) in (k, l, e, read_back_says z f ∙ e)

    pub scaled_up :
        {n es g : ℕ} {r : Located} → Locates n es (g * 2 ^ 29) (nat_abs (read_back z)) 29 r.pattern r.exact → LocatesScaled n es z g r
    scaled_up {n} {es} {g} {r} h =
        let (k, l, e, i) = up in
        meant z g (subst (λ y. finite_value false y g ≈ given (g * 2 ^ 29) k 29) (sym e) (higher_value k g))
        (subst (λ y. Locates n es (g * 2 ^ 29) (nat_abs y) 29 r.pattern r.exact) i h)
