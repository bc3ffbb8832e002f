-- Fractions whose denominator is a power of two, a / 2^k, and whole numbers among them: they compare, add and multiply as their numerators.
use mathlib.Core.Path.{◌≡◌, refl, sym, ap}
use mathlib.Core.Logic.Iff
use mathlib.Core.Logic.{◌↔◌}
use Prim.Native.Nat.{ℕ, suc, ◌+◌, ◌*◌, ◌/◌, ◌^◌, ◌≤◌, ◌<◌}
use native.Mathlib.Nat.{zero-lt-suc, div-mul-le_self, lt-div-mul-add}
use native.Mathlib.Omega.{arith}
use lib.Pow.{pow-add, pow_pos}
use lib.IntN.{ℤ, pos, neg_ℤ, ◌+ℤ◌, ◌-ℤ◌, ◌*ℤ◌}
use lib.Signed.{◌≤ℤ◌, ◌<ℤ◌}
use Rattle.exact.specs.Whole.{above_zero, power_above}
use Rattle.exact.specs.Fraction.{◌≤ᶠ◌, ◌<ᶠ◌, ◌≈◌, whole, over_power, negᶠ, ◌+ᶠ◌, ◌-ᶠ◌, ◌*ᶠ◌}
use Rattle.exact.proofs.Whole.{*ℤ_idr}
use Rattle.exact.proofs.WholeOrder.{pos_≤ℤ, pos_<ℤ, pos_inj}
use Rattle.exact.proofs.Order.{≈_of_parts, ≈_trans, ≈_refl}
use Rattle.exact.proofs.Common.{over_≤ᶠ, over_<ᶠ, over_≈, over_+ᶠ, over_difference, over_expand}

-- ---- over a power of two
pub pos_pow : (i j : ℕ) → pos (2 ^ (i + j)) ≡ pos (2 ^ i) *ℤ pos (2 ^ j)
pos_pow i j = ap pos (pow-add 2 i j)

pub over_power_expand : (a : ℤ) (k j : ℕ) → over_power a k ≈ over_power (a *ℤ pos (2 ^ j)) (k + j)
over_power_expand a k j = ≈_trans (over_expand (power_above k) (power_above j) a) (≈_of_parts refl (sym (pos_pow k j)))

pub over_power_≤ᶠ : (k : ℕ) {a b : ℤ} → (over_power a k ≤ᶠ over_power b k) ↔ (a ≤ℤ b)
over_power_≤ᶠ k = over_≤ᶠ (power_above k)

pub over_power_<ᶠ : (k : ℕ) {a b : ℤ} → (over_power a k <ᶠ over_power b k) ↔ (a <ℤ b)
over_power_<ᶠ k = over_<ᶠ (power_above k)

pub over_power_≈ : (k : ℕ) {a b : ℤ} → (over_power a k ≈ over_power b k) ↔ (a ≡ b)
over_power_≈ k = over_≈ (power_above k)

pub over_power_+ᶠ : (k : ℕ) (a b : ℤ) → (over_power a k +ᶠ over_power b k) ≈ over_power (a +ℤ b) k
over_power_+ᶠ k = over_+ᶠ (power_above k)

pub over_power_difference : (k : ℕ) (a b : ℤ) → (over_power a k -ᶠ over_power b k) ≈ over_power (a -ℤ b) k
over_power_difference k = over_difference (power_above k)

pub over_power_*ᶠ : (i j : ℕ) (a b : ℤ) → (over_power a i *ᶠ over_power b j) ≈ over_power (a *ℤ b) (i + j)
over_power_*ᶠ i j a b = ≈_of_parts refl (sym (pos_pow i j))

pub over_power_negᶠ : (k : ℕ) (a : ℤ) → negᶠ (over_power a k) ≈ over_power (neg_ℤ a) k
over_power_negᶠ k a = ≈_refl (over_power (neg_ℤ a) k)

-- two of them by their cross products
pub over_power_cross_≤ᶠ : (i j : ℕ) {a b : ℤ} → (over_power a i ≤ᶠ over_power b j) ↔ ((a *ℤ pos (2 ^ j)) ≤ℤ (b *ℤ pos (2 ^ i)))
over_power_cross_≤ᶠ i j = (λ h. h.cross, λ h. record { cross = h })

pub over_power_cross_<ᶠ : (i j : ℕ) {a b : ℤ} → (over_power a i <ᶠ over_power b j) ↔ ((a *ℤ pos (2 ^ j)) <ℤ (b *ℤ pos (2 ^ i)))
over_power_cross_<ᶠ i j = (λ h. h.cross, λ h. record { cross = h })

pub over_power_cross_+ᶠ : (i j : ℕ) (a b : ℤ) → (over_power a i +ᶠ over_power b j) ≈ over_power (a *ℤ pos (2 ^ j) +ℤ b *ℤ pos (2 ^ i)) (i + j)
over_power_cross_+ᶠ i j a b = ≈_of_parts refl (sym (pos_pow i j))

-- ---- whole numbers
pub whole_is : (a : ℤ) (k : ℕ) → whole a ≈ over_power (a *ℤ pos (2 ^ k)) k
whole_is a k = record { cross = sym (*ℤ_idr (a *ℤ pos (2 ^ k))) }

pub whole_≤ᶠ : {a b : ℤ} → (whole a ≤ᶠ whole b) ↔ (a ≤ℤ b)
whole_≤ᶠ = over_≤ᶠ (above_zero (zero-lt-suc 0))

pub whole_<ᶠ : {a b : ℤ} → (whole a <ᶠ whole b) ↔ (a <ℤ b)
whole_<ᶠ = over_<ᶠ (above_zero (zero-lt-suc 0))

pub whole_≈ : {a b : ℤ} → (whole a ≈ whole b) ↔ (a ≡ b)
whole_≈ = over_≈ (above_zero (zero-lt-suc 0))

pub whole_+ᶠ : (a b : ℤ) → (whole a +ᶠ whole b) ≈ whole (a +ℤ b)
whole_+ᶠ = over_+ᶠ (above_zero (zero-lt-suc 0))

pub whole_difference : (a b : ℤ) → (whole a -ᶠ whole b) ≈ whole (a -ℤ b)
whole_difference = over_difference (above_zero (zero-lt-suc 0))

pub whole_*ᶠ : (a b : ℤ) → (whole a *ᶠ whole b) ≈ whole (a *ℤ b)
whole_*ᶠ a b = ≈_of_parts refl refl

-- ---- natural numerators, and the floor
pub over_power_pos_≤ᶠ : (i j : ℕ) {a b : ℕ} → (over_power (pos a) i ≤ᶠ over_power (pos b) j) ↔ (a * 2 ^ j ≤ b * 2 ^ i)
over_power_pos_≤ᶠ i j = Iff.trans (over_power_cross_≤ᶠ i j) pos_≤ℤ

pub over_power_pos_<ᶠ : (i j : ℕ) {a b : ℕ} → (over_power (pos a) i <ᶠ over_power (pos b) j) ↔ (a * 2 ^ j < b * 2 ^ i)
over_power_pos_<ᶠ i j = Iff.trans (over_power_cross_<ᶠ i j) pos_<ℤ

pub over_power_pos_≈ : (i j : ℕ) {a b : ℕ} → (over_power (pos a) i ≈ over_power (pos b) j) ↔ (a * 2 ^ j ≡ b * 2 ^ i)
over_power_pos_≈ i j = (λ h. pos_inj h.cross, λ h. record { cross = ap pos h })

pub floor_≤ᶠ : (x k : ℕ) → whole (pos (x / 2 ^ k)) ≤ᶠ over_power (pos x) k
floor_≤ᶠ x k = record { cross = pos_≤ℤ.1 (omega (arith, div-mul-le_self x (2 ^ k))) }

pub floor_<ᶠ : (x k : ℕ) → over_power (pos x) k <ᶠ whole (pos (suc (x / 2 ^ k)))
floor_<ᶠ x k = record { cross = pos_<ℤ.1 (omega (arith, lt-div-mul-add {a = x} (pow_pos k))) }
