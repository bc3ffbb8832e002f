-- The pattern that `locate` builds and the next one bracket every number from g · 2^s / 2^a to below (g + 1) · 2^s / 2^a: by the scale of the
-- highest bit the pattern is 0, starts with zeros or with ones, or is the largest, and its tail is the number cut to size (`Place`).
use Rattle.std.proofs.Common.{◌≡◌, ℕ, suc, ◌+◌, ◌-◌, ◌*◌, ◌/◌, ◌%◌, ◌^◌, ◌<◌, ◌≤◌, Bool, true, false, T, eqb, sym, refl, ap, ◌∙◌, subst, mul-le-mul_right, mul-lt-mul_of_pos_right, mul-pos, arith, pow_pos, pow_mono, pow-add, eqb-true}
use borrow.Author.Tests.{eqb-false}
use lib.Pow.{pow-lt}
use Rattle.posit.specs.Value.{multiple}
use Rattle.posit.proofs.Shapes.{zeros_value, ones_value}
use Rattle.posit.proofs.Order.{multiple_zero, multiple_one, multiple_top, after_zeros, after_ones}
use Rattle.posit.proofs.Growth.{G}
use Rattle.posit.proofs.Place.{behind, unit_of, tail_fits, hits, misses, next_above}

-- minPos of the patterns of n bits is 2^-c
abbrev pub lowest : ℕ → ℕ → ℕ
lowest n es = (n - 1) * 2 ^ es

pub record Brackets (n es g s a L : ℕ) (exact : Bool) : Type 0 where
  pub fits : L < 2 ^ n
  pub hit : exact ≡ true → multiple n es L * 2 ^ a ≡ g * 2 ^ (s + lowest n es)
  pub miss : exact ≡ false → multiple n es L * 2 ^ a < g * 2 ^ (s + lowest n es)
  pub next : suc L < 2 ^ n → suc g * 2 ^ (s + lowest n es) ≤ multiple n es (suc L) * 2 ^ a

module _ (n es g s a h : ℕ) (some : 0 < n) (at_least : 2 ^ h ≤ g) (less : g < 2 * 2 ^ h) where
  -- ---- smaller than the smallest pattern
  pub below_all : s + h + lowest n es < a → Brackets n es g s a 0 false
  below_all l =
      record {
        fits = pow_pos n;
        hit = λ e. absurd (subst T (sym e) tt);
        miss = λ e. rw (multiple_zero n es) (omega (arith, mul-pos {m = g} {n = 2 ^ (s + lowest n es)} (omega (arith, pow_pos h)) (pow_pos (s + lowest n es))));
        next = λ u. rw (multiple_one n es some) above;
      }
    where
      doubled : 2 ^ (suc h + (s + lowest n es)) ≡ 2 * 2 ^ h * 2 ^ (s + lowest n es)
      doubled = pow-add 2 (suc h) (s + lowest n es) ∙ ap (λ (k : ℕ). k * 2 ^ (s + lowest n es)) {x = 2 ^ suc h} {y = 2 * 2 ^ h} (omega arith)

      above : suc g * 2 ^ (s + lowest n es) ≤ 1 * 2 ^ a
      above = omega (arith, mul-le-mul_right (2 ^ (s + lowest n es)) less, doubled, pow_mono {i = suc h + (s + lowest n es)} {j = a} (omega arith))

  -- ---- a tail behind a run
  module _ (w q e : ℕ) (low : e < 2 ^ es) (room : w ≤ h + es) (scale : q * 2 ^ es + e + a ≡ s + h + lowest n es) where
    abbrev t : ℕ
    t = behind h e g / unit_of es h w

    cut :
        (L : ℕ) → L < 2 ^ n → multiple n es L * 2 ^ w ≡ 2 ^ (q * 2 ^ es) * G w (t * 2 ^ es)
        → multiple n es (suc L) * 2 ^ w ≡ 2 ^ (q * 2 ^ es) * G w (suc t * 2 ^ es)
        → Brackets n es g s a L (eqb (behind h e g % unit_of es h w) 0)
    cut L u here there =
        record {
          fits = u;
          hit = λ z. hits es h w q e g at_least less low room s a (lowest n es) scale (multiple n es L) (multiple n es (suc L)) here there (eqb-true (behind h e g % unit_of es h w) 0 z);
          miss = λ z. misses es h w q e g at_least less low room s a (lowest n es) scale (multiple n es L) (multiple n es (suc L)) here there (eqb-false (behind h e g % unit_of es h w) 0 z);
          next = λ v. next_above es h w q e g at_least less low room s a (lowest n es) scale (multiple n es L) (multiple n es (suc L)) here there;
        }

    t_fits : t < 2 ^ w
    t_fits = tail_fits es h w q e g at_least less low room

    pub behind_zeros : w ≡ q → q < n - 1 → Brackets n es g s a (2 ^ w + t) (eqb (behind h e g % unit_of es h w) 0)
    behind_zeros i l =
        cut (2 ^ w + t) (omega (arith, t_fits, pow_mono {i = suc w} {j = n} (omega arith)))
        (zeros_value n (2 ^ w + t) w t t_fits (omega arith) refl es ∙ ap (λ (k : ℕ). 2 ^ (k * 2 ^ es) * G w (t * 2 ^ es)) i)
        (after_zeros n (2 ^ w + t) w t t_fits (omega arith) refl es ∙ ap (λ (k : ℕ). 2 ^ (k * 2 ^ es) * G w (suc t * 2 ^ es)) i)

    pub behind_ones : n - 1 ≤ q → q + w + 3 ≡ 2 * n → Brackets n es g s a (2 ^ n - 2 * 2 ^ w + t) (eqb (behind h e g % unit_of es h w) 0)
    behind_ones l i =
        cut (2 ^ n - 2 * 2 ^ w + t) (omega (arith, t_fits, wide))
        (ones_value n (2 ^ n - 2 * 2 ^ w + t) (n - 2 - w) w t t_fits (omega arith) (omega (arith, wide)) es ∙ ap (λ (k : ℕ). 2 ^ (k * 2 ^ es) * G w (t * 2 ^ es)) (omega arith))
        (after_ones n (2 ^ n - 2 * 2 ^ w + t) (n - 2 - w) w t t_fits (omega arith) (omega (arith, wide)) es ∙ ap (λ (k : ℕ). 2 ^ (k * 2 ^ es) * G w (suc t * 2 ^ es)) (omega arith))
      where
        wide : 2 * 2 ^ w ≤ 2 ^ n
        wide = omega (arith, pow_mono {i = suc w} {j = n} (omega arith))

  -- ---- the largest pattern
  largest : multiple n es (2 ^ n - 1) ≡ 2 ^ (2 * lowest n es)
  largest = multiple_top n es some ∙ ap (λ (k : ℕ). 2 ^ (2 * (k * 2 ^ es))) (omega arith)

  last : {c : Bool} → (c ≡ true → 2 ^ (2 * lowest n es) * 2 ^ a ≡ g * 2 ^ (s + lowest n es))
      → (c ≡ false → 2 ^ (2 * lowest n es) * 2 ^ a < g * 2 ^ (s + lowest n es)) → Brackets n es g s a (2 ^ n - 1) c
  last f k = record { fits = omega (arith, pow_pos n); hit = rw largest f; miss = rw largest k; next = λ v. absurd (omega arith) }

  module _ (S : ℕ) (scale : S + a ≡ s + h + lowest n es) where
    in_all : 2 ^ S * 2 ^ a ≡ 2 ^ h * 2 ^ (s + lowest n es)
    in_all = rw (← pow-add 2 S a, ← pow-add 2 h (s + lowest n es)) (ap (λ (k : ℕ). 2 ^ k) (omega arith))

    pub beyond_last : 2 * lowest n es < S → Brackets n es g s a (2 ^ n - 1) false
    beyond_last l =
        last (λ e. absurd (subst T (sym e) tt))
        (λ e. omega (arith, mul-lt-mul_of_pos_right (pow-lt l) (pow_pos a), in_all, mul-le-mul_right (2 ^ (s + lowest n es)) at_least))

    pub at_last : S ≡ 2 * lowest n es → Brackets n es g s a (2 ^ n - 1) (eqb g (2 ^ h))
    at_last i =
        last (λ z. rw (← i, in_all) (ap (λ (k : ℕ). k * 2 ^ (s + lowest n es)) (sym (eqb-true g (2 ^ h) z))))
        (λ z. let d = eqb-false g (2 ^ h) z in rw (← i, in_all) (mul-lt-mul_of_pos_right {m = 2 ^ h} {n = g} (omega arith) (pow_pos (s + lowest n es))))
