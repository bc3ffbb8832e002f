-- With the top bit turned over, signed patterns order as unsigned ones: it is right because turning it over adds half of all patterns to the signed integer.
use Rattle.std.proofs.Common.{◌≡◌, ℕ, ◌+◌, ◌-◌, ◌*◌, ◌%◌, ◌^◌, ◌<◌, ◌≤◌, ◌↔◌, pos, ◌+ℤ◌, neg_ℤ, ◌<ℤ◌, sym, ap, ◌∙◌, ap₂, le_refl, mod-eq_of_lt, arith, pow_pos, le-ltb}
use native.Mathlib.Nat.{sub_self, add-mod_right, mod-add-mod}
use native.Mathlib.Decide.{dec_lt}
use Rattle.exact.proofs.Linear.{spread, parts}
use Rattle.exact.proofs.WholeOrder.{pos_<ℤ, +ℤ_cancel_<}
use Rattle.posit.specs.Format.{Finite, nar}
use Rattle.posit.specs.Value.{signed}
use Rattle.posit.proofs.Mirror.{nar_is_half, signed_below}

-- the pattern p with its top bit turned over
abbrev pub turned : ℕ → ℕ → ℕ
turned n p = (p + nar n) % 2 ^ n

pub signed_from : (n : ℕ) {p : ℕ} → nar n ≤ p → signed n p ≡ neg_ℤ (pos (2 ^ n - p))
signed_from n {p} h = rw (le-ltb p (nar n) h)

difference : (a h p : ℕ) → a ≡ 2 * h → h ≤ p → p < a → neg_ℤ (pos (a - p)) +ℤ pos h ≡ pos (p - h)
difference a h p e l u = simp spread (simp parts (omega arith))

module _ (n : ℕ) (k : 1 ≤ n) where
  turned_below : {p : ℕ} → p < nar n → turned n p ≡ p + nar n
  turned_below h = mod-eq_of_lt (omega (arith, nar_is_half n k))

  turned_from : {p : ℕ} → nar n ≤ p → p < 2 ^ n → turned n p ≡ p - nar n
  turned_from {p} h u =
      ap (λ (x : ℕ). x % 2 ^ n) {x = p + nar n} {y = p - nar n + 2 ^ n} (omega (arith, nar_is_half n k))
      ∙ add-mod_right (p - nar n) (2 ^ n)
      ∙ mod-eq_of_lt (omega arith)

  pub turned_is : {p : ℕ} → p < 2 ^ n → signed n p +ℤ pos (nar n) ≡ pos (turned n p)
  turned_is {p} u = by (dec_lt p (nar n))
    where
      by : Dec (p < nar n) → signed n p +ℤ pos (nar n) ≡ pos (turned n p)
      by (yes h) = rw (signed_below n h) (ap pos (sym (turned_below h)))
      by (no h) =
          let l : nar n ≤ p = omega arith in
          rw (signed_from n l) (difference (2 ^ n) (nar n) p (nar_is_half n k) l u ∙ ap pos (sym (turned_from l u)))

  turned_twice : {p : ℕ} → p < 2 ^ n → turned n (turned n p) ≡ p
  turned_twice {p} u =
      mod-add-mod (p + nar n) (2 ^ n) (nar n)
      ∙ ap (λ (x : ℕ). x % 2 ^ n) {x = p + nar n + nar n} {y = p + 2 ^ n} (omega (arith, nar_is_half n k))
      ∙ add-mod_right p (2 ^ n)
      ∙ mod-eq_of_lt u

  module _ {p q : ℕ} (u : p < 2 ^ n) (v : q < 2 ^ n) where
    pub turned_lt : (turned n p < turned n q) ↔ (signed n p <ℤ signed n q)
    turned_lt = (
      λ h. (+ℤ_cancel_< (pos (nar n))).0 (rw (turned_is u, turned_is v) (pos_<ℤ.1 h)),
      λ h. pos_<ℤ.0 (rw (turned_is u, turned_is v) at ((+ℤ_cancel_< (pos (nar n))).1 h)),
    )

    pub turned_injective : turned n p ≡ turned n q → p ≡ q
    turned_injective e = sym (turned_twice u) ∙ ap (turned n) e ∙ turned_twice v

  -- NaR turned over is 0, so its signed integer is the least
  nar_fits : nar n < 2 ^ n
  nar_fits = omega (arith, nar_is_half n k, pow_pos (n - 1))

  turned_nar : turned n (nar n) ≡ 0
  turned_nar = turned_from (le_refl (nar n)) nar_fits ∙ sub_self (nar n)

  pub nar_least : {p : ℕ} → Finite n p → signed n (nar n) <ℤ signed n p
  nar_least {p} f =
      let other : ¬ (turned n p ≡ 0) = λ e. f.not_nar (turned_injective f.fits nar_fits (e ∙ sym turned_nar)) in
      (turned_lt nar_fits f.fits).0 (omega (arith, turned_nar))

-- ---- the same of a half and a whole that were computed
module _ (n : ℕ) {half : ℕ} (h : half ≡ nar n) where
  module _ {a b p q : ℕ} (k : 3 ≤ n) (u : p < 2 ^ n) (v : q < 2 ^ n) (ea : a ≡ 2 ^ n) (eb : b ≡ 2 ^ n) where
    turned_of : (x : ℕ) {all : ℕ} → all ≡ 2 ^ n → (x + half) % all ≡ turned n x
    turned_of x e = ap₂ (λ (y z : ℕ). (x + y) % z) h e

    pub less_turned : (p + half) % a < (q + half) % b → signed n p <ℤ signed n q
    less_turned l = (turned_lt n (omega arith) u v).0 (rw (turned_of p ea, turned_of q eb) at l)

    pub same_turned : (p + half) % a ≡ (q + half) % b → p ≡ q
    same_turned e = turned_injective n (omega arith) u v (sym (turned_of p ea) ∙ e ∙ turned_of q eb)
