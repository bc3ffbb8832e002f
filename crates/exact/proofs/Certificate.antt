-- Inequalities of whole numbers with products, by certificate. Hypotheses are weighed (⊙) and added (⊕) to l ≤ r; then e ≤ f
-- where, for some k above 0, k·f + l and k·e + r are the same expression, which the ring solver (`Ring`) sees: `certify k (..) (..)`.
use mathlib.Core.Path.{◌≡◌, sym, ap, ap₂, ◌∙◌}
use mathlib.Core.Logic.{inl, inr, ◌↔◌}
use Prim.Native.Nat.{ℕ, suc, ◌+◌, ◌*◌, ◌≤◌, ◌<◌}
use native.Mathlib.Nat.{le_dest, mul-le-mul_left, mul-lt-mul_of_pos_left}
use native.Mathlib.Omega.{arith}
use lib.IntN.{ℤ, pos, ◌+ℤ◌, ◌*ℤ◌, *ℤ_comm}
use lib.Signed.{◌≤ℤ◌, ◌<ℤ◌, clash_ℤ, lt_z_yes}
use Rattle.exact.proofs.Parts.{up, dn, up_pos, dn_pos, up_mul, dn_mul, parts_of_le, le_of_parts, parts_of_lt, lt_of_parts}
use Rattle.exact.proofs.Linear.{spread, parts, given}
use Rattle.exact.proofs.WholeOrder.{≤ℤ_or_<ℤ, ≤ℤ_of_<ℤ, ≤ℤ_antisymm, ≤ℤ_of_≡, +ℤ_mono, +ℤ_mono_<}

-- ---- the one fact on products: the greater part with the greater number
exchange : {u v x y : ℕ} → v ≤ u → x ≤ y → u * x + v * y ≤ u * y + v * x
exchange {v} {x} {y} h k = let (d, e) = le_dest h in rw (← e) (omega (arith, mul-le-mul_left d k))

exchange_< : {u v x y : ℕ} → v < u → x < y → u * x + v * y < u * y + v * x
exchange_< {v} {x} {y} h k = let (d, e) = le_dest h in rw (← e) (omega (arith, mul-lt-mul_of_pos_left {k = suc d} k (omega arith)))

-- ---- products by a number ≥ 0 or above 0
pub *ℤ_mono : {m a b : ℤ} → pos 0 ≤ℤ m → a ≤ℤ b → (m *ℤ a) ≤ℤ (m *ℤ b)
*ℤ_mono {m} {a} {b} h k =
    let greater : dn m ≤ up m = omega (arith, parts_of_le h, up_pos 0, dn_pos 0) in
    le_of_parts (m *ℤ a) (m *ℤ b) (simp (up_mul, dn_mul) (omega (arith, exchange greater (parts_of_le k))))

pub *ℤ_mono_< : {m a b : ℤ} → pos 0 <ℤ m → a <ℤ b → (m *ℤ a) <ℤ (m *ℤ b)
*ℤ_mono_< {m} {a} {b} h k =
    let greater : dn m < up m = omega (arith, parts_of_lt h, up_pos 0, dn_pos 0) in
    lt_of_parts (m *ℤ a) (m *ℤ b) (simp (up_mul, dn_mul) (omega (arith, exchange_< greater (parts_of_lt k))))

pub *ℤ_cancel : {k a b : ℤ} → pos 0 <ℤ k → (k *ℤ a) ≤ℤ (k *ℤ b) → a ≤ℤ b
*ℤ_cancel {k} {a} {b} h l = elim (≤ℤ_or_<ℤ a b) [ inl r ↦ r | inr r ↦ clash_ℤ (*ℤ_mono_< h r) l ]

pub *ℤ_cancel_< : {k a b : ℤ} → pos 0 <ℤ k → (k *ℤ a) <ℤ (k *ℤ b) → a <ℤ b
*ℤ_cancel_< {k} {a} {b} h l = elim (≤ℤ_or_<ℤ b a) [ inl r ↦ clash_ℤ l (*ℤ_mono (≤ℤ_of_<ℤ h) r) | inr r ↦ r ]

pub *ℤ_cancel_≡ : {k a b : ℤ} → pos 0 <ℤ k → k *ℤ a ≡ k *ℤ b → a ≡ b
*ℤ_cancel_≡ h e = ≤ℤ_antisymm (*ℤ_cancel h (≤ℤ_of_≡ e)) (*ℤ_cancel h (≤ℤ_of_≡ (sym e)))

-- ---- the same with the factor on the right
pub *ℤ_≤ℤ : {k a b : ℤ} → pos 0 <ℤ k → ((a *ℤ k) ≤ℤ (b *ℤ k)) ↔ (a ≤ℤ b)
*ℤ_≤ℤ {k} {a} {b} s = (λ h. *ℤ_cancel s (rw (*ℤ_comm k a, *ℤ_comm k b) h), λ h. rw (*ℤ_comm a k, *ℤ_comm b k) (*ℤ_mono (≤ℤ_of_<ℤ s) h))

pub *ℤ_<ℤ : {k a b : ℤ} → pos 0 <ℤ k → ((a *ℤ k) <ℤ (b *ℤ k)) ↔ (a <ℤ b)
*ℤ_<ℤ {k} {a} {b} s = (λ h. *ℤ_cancel_< s (rw (*ℤ_comm k a, *ℤ_comm k b) h), λ h. rw (*ℤ_comm a k, *ℤ_comm b k) (*ℤ_mono_< s h))

pub *ℤ_≡ : {k a b : ℤ} → pos 0 <ℤ k → (a *ℤ k ≡ b *ℤ k) ↔ (a ≡ b)
*ℤ_≡ {k} {a} {b} s = (λ h. *ℤ_cancel_≡ s (*ℤ_comm k a ∙ h ∙ *ℤ_comm b k), λ h. ap (λ (z : ℤ). z *ℤ k) h)

-- ---- hypotheses, weighed and added
infixl 30 ◌⊕◌ ◌⊕<◌ ◌⊕≡◌
infixl 40 ◌⊙◌ ◌⊙<◌ ◌⊙≡◌
pub ◌⊙◌ : {m a b : ℤ} → pos 0 <ℤ m → a ≤ℤ b → (m *ℤ a) ≤ℤ (m *ℤ b)
h ⊙ k = *ℤ_mono (≤ℤ_of_<ℤ h) k

pub ◌⊙<◌ : {m a b : ℤ} → pos 0 <ℤ m → a <ℤ b → (m *ℤ a) <ℤ (m *ℤ b)
h ⊙< k = *ℤ_mono_< h k

pub ◌⊙≡◌ : (m : ℤ) {a b : ℤ} → a ≡ b → m *ℤ a ≡ m *ℤ b
m ⊙≡ e = ap (λ (z : ℤ). m *ℤ z) e

pub ◌⊕◌ : {a b c d : ℤ} → a ≤ℤ b → c ≤ℤ d → (a +ℤ c) ≤ℤ (b +ℤ d)
h ⊕ k = +ℤ_mono h k

pub ◌⊕<◌ : {a b c d : ℤ} → a ≤ℤ b → c <ℤ d → (a +ℤ c) <ℤ (b +ℤ d)
h ⊕< k = +ℤ_mono_< h k

pub ◌⊕≡◌ : {a b c d : ℤ} → a ≡ b → c ≡ d → a +ℤ c ≡ b +ℤ d
h ⊕≡ k = ap₂ (λ (y z : ℤ). y +ℤ z) h k

-- ---- certificates
pub one_above : pos 0 <ℤ pos 1
one_above = lt_z_yes tt

pub certify : {k e f l r : ℤ} → pos 0 <ℤ k → l ≤ℤ r → k *ℤ f +ℤ l ≡ k *ℤ e +ℤ r → e ≤ℤ f
certify h s i = *ℤ_cancel h (given s (given i (simp spread (simp parts (omega arith)))))

pub certify_< : {k e f l r : ℤ} → pos 0 <ℤ k → l <ℤ r → k *ℤ f +ℤ l ≡ k *ℤ e +ℤ r → e <ℤ f
certify_< h s i = *ℤ_cancel_< h (given s (given i (simp spread (simp parts (omega arith)))))

pub certify_≡ : {k e f l r : ℤ} → pos 0 <ℤ k → l ≡ r → k *ℤ f +ℤ l ≡ k *ℤ e +ℤ r → e ≡ f
certify_≡ h s i = *ℤ_cancel_≡ h (given s (given i (simp spread (simp parts (omega arith)))))
