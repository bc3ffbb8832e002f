-- `locate`'s ways out, each by the scale T of the highest bit above minPos's: the regime T / 2^es says which run the pattern has (`Bracketed`).
use Rattle.std.proofs.Common.{◌≡◌, ℕ, ◌+◌, ◌-◌, ◌*◌, ◌/◌, ◌%◌, ◌^◌, ◌<◌, ◌≤◌, Bool, false, eqb, ◌≢◌, sym, ◌∙◌, subst₂, mod-lt, mul_assoc, le-div_iff_mul-le, arith, pow_pos}
use lib.Pow.{split}
use Rattle.posit.specs.Format.{Format}
use Rattle.posit.specs.declared.inner.locate.Located.{Located}
use Rattle.posit.specs.Parts.{HighestBit, Cut}
use Rattle.posit.specs.Locating.{Locates}
use Rattle.posit.proofs.Place.{behind, unit_of}
use Rattle.posit.proofs.Bounds.{high_at_least}
use Rattle.posit.proofs.Bracketed.{lowest, Brackets, below_all, behind_zeros, behind_ones, beyond_last, at_last}
use Rattle.posit.proofs.FromBrackets.{locates}

-- T is the scale of g's highest bit h above minPos's
pub record Scale (n es g s a h T : ℕ) : Type 0 where
  pub format : Format n es
  pub high : HighestBit g h
  pub large : 2 ^ 16 ≤ g
  pub scale_is : T + a ≡ s + h + lowest n es

pub below_min_pos : {n es g h : ℕ} (s a : ℕ) → Format n es → HighestBit g h → s + h + lowest n es < a → Locates n es g s a 0 false
below_min_pos {n} {es} {g} {h} s a f t l =
    locates n es g s a 0 (omega (arith, f.wide_enough)) (below_all n es g s a h (omega (arith, f.wide_enough)) t.at_least t.less l)

module _ {n es g s a h T : ℕ} (k : Scale n es g s a h T) where
  abbrev x : ℕ
  x = behind h (T % 2 ^ es) g

  some : 0 < n
  some = omega (arith, k.format.wide_enough)

  parts : T / 2 ^ es * 2 ^ es + T % 2 ^ es + a ≡ s + h + lowest n es
  parts = omega (arith, split T es, k.scale_is)

  few : 16 ≤ h
  few = high_at_least 16 k.large k.high

  module _ {head w tail : ℕ} {r : Located} (c : Cut head w (h + es) tail r) (same : tail ≡ x) where
    -- the pattern that was cut is the one that the laws name
    as_cut :
        (front : ℕ) → head ≡ front → Brackets n es g s a (front + x / unit_of es h w) (eqb (x % unit_of es h w) 0)
        → Locates n es g s a r.pattern r.exact
    as_cut front e b =
        subst₂ (λ L i. Locates n es g s a L i) (sym (c.pattern ∙ rw (e, same))) (sym (c.exact ∙ rw same))
        (locates n es g s a (front + x / unit_of es h w) some b)

    pub zeros_first : head ≡ 2 ^ w → w ≡ T / 2 ^ es → w < n - 1 → Locates n es g s a r.pattern r.exact
    zeros_first e i l =
        as_cut (2 ^ w) e
        (behind_zeros n es g s a h some k.high.at_least k.high.less w (T / 2 ^ es) (T % 2 ^ es) (mod-lt T (pow_pos es))
        (omega (arith, few, k.format.not_too_wide)) parts i (rw (← i) l))

    pub ones_first : head ≡ 2 ^ n - 2 * 2 ^ w → n - 1 ≤ T / 2 ^ es → T / 2 ^ es + w + 3 ≡ 2 * n → Locates n es g s a r.pattern r.exact
    ones_first e l i =
        as_cut (2 ^ n - 2 * 2 ^ w) e
        (behind_ones n es g s a h some k.high.at_least k.high.less w (T / 2 ^ es) (T % 2 ^ es) (mod-lt T (pow_pos es))
        (omega (arith, few, k.format.not_too_wide)) parts l i)

  pub last_hit : {L i : ℕ} → L ≡ 2 ^ n → i ≡ 2 ^ h → T ≡ 2 * lowest n es → Locates n es g s a (L - 1) (eqb g i)
  last_hit e j l = rw (e, j) (locates n es g s a (2 ^ n - 1) some (at_last n es g s a h some k.high.at_least k.high.less T k.scale_is l))

  pub last_passed : {L : ℕ} {i : Bool} → L ≡ 2 ^ n → i ≡ false → 2 * (n - 1) ≤ T / 2 ^ es → T ≢ 2 * lowest n es → Locates n es g s a (L - 1) i
  last_passed e j l d =
      rw (e, j)
      (locates n es g s a (2 ^ n - 1) some
      (beyond_last n es g s a h some k.high.at_least k.high.less T k.scale_is
      (omega (arith, (le-div_iff_mul-le {k = 2 ^ es} {x = 2 * (n - 1)} {y = T} (pow_pos es)).0 l, mul_assoc 2 (n - 1) (2 ^ es)))))

-- ---- the numbers of the code, which hold powers that calls gave
pub scale_with : (p n a es : ℕ) {E : ℕ} → E ≡ 2 ^ es → p + (n - 1) * E - a ≡ p + lowest n es - a
scale_with p n a es e = rw e

pub twice_with : (n es : ℕ) {E : ℕ} → E ≡ 2 ^ es → 2 * (n - 1) * E ≡ 2 * lowest n es
twice_with n es e = rw e (mul_assoc 2 (n - 1) (2 ^ es))

pub regime_with : (p n a es : ℕ) {E F : ℕ} → E ≡ 2 ^ es → F ≡ 2 ^ es → (p + (n - 1) * E - a) / F ≡ (p + lowest n es - a) / 2 ^ es
regime_with p n a es e f = rw (e, f)

pub bits_with :
    (p n a es g h : ℕ) {E F H K : ℕ} → E ≡ 2 ^ es → F ≡ 2 ^ es → H ≡ 2 ^ h → K ≡ 2 ^ h
    → (p + (n - 1) * E - a) % F * H + (g - K) ≡ behind h ((p + lowest n es - a) % 2 ^ es) g
bits_with p n a es g h e f i j = rw (e, f, i, j)
