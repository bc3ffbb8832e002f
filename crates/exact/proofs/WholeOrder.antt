-- The order of the whole numbers, beyond what the library's `Signed` has: it is linear and decided by its tests, sums and negation keep
-- or turn it, and on natural numbers it is theirs. Each law is a linear fact (`Linear`).
use mathlib.Core.Path.{◌≡◌, refl}
use mathlib.Core.Bool.{Bool, true, false, not}
use mathlib.Core.Logic.{◌⊎◌, inl, inr, ◌↔◌}
use Prim.Native.Nat.{ℕ, ◌≤◌, ◌<◌, zero-le}
use native.Mathlib.Omega.{arith}
use lib.Dec.{T, T_not, le→leb}
use lib.IntN.{ℤ, pos, negsuc, neg_ℤ, ◌+ℤ◌, ◌-ℤ◌}
use lib.Signed.{◌≤ℤ◌, ◌<ℤ◌, le_z, lt_z, lt_z_yes, lt_z_no, le_z_yes}
use Rattle.exact.proofs.Linear.{spread, parts, given}

-- ---- a linear order
pub ≤ℤ_of_≡ : {a b : ℤ} → a ≡ b → a ≤ℤ b
≤ℤ_of_≡ h = given h (simp spread (simp parts (omega arith)))

pub ≤ℤ_of_<ℤ : {a b : ℤ} → a <ℤ b → a ≤ℤ b
≤ℤ_of_<ℤ h = given h (simp spread (simp parts (omega arith)))

pub ≤ℤ_trans : {a b c : ℤ} → a ≤ℤ b → b ≤ℤ c → a ≤ℤ c
≤ℤ_trans h k = given h (given k (simp spread (simp parts (omega arith))))

pub ≤ℤ_<ℤ_trans : {a b c : ℤ} → a ≤ℤ b → b <ℤ c → a <ℤ c
≤ℤ_<ℤ_trans h k = given h (given k (simp spread (simp parts (omega arith))))

pub <ℤ_trans : {a b c : ℤ} → a <ℤ b → b <ℤ c → a <ℤ c
<ℤ_trans h k = ≤ℤ_<ℤ_trans (≤ℤ_of_<ℤ h) k

pub ≤ℤ_antisymm : {a b : ℤ} → a ≤ℤ b → b ≤ℤ a → a ≡ b
≤ℤ_antisymm h k = given h (given k (simp spread (simp parts (omega arith))))

pub ≤ℤ_or_<ℤ : (a b : ℤ) → (a ≤ℤ b) ⊎ (b <ℤ a)
≤ℤ_or_<ℤ a b = by_test (lt_z b a) (λ t. lt_z_yes t) (λ t. lt_z_no t)
  where
    by_test : (c : Bool) → (T c → b <ℤ a) → (T (not c) → a ≤ℤ b) → (a ≤ℤ b) ⊎ (b <ℤ a)
    by_test true f g = inr (f tt)
    by_test false f g = inl (g tt)

pub <ℤ_of_not_≤ℤ : {a b : ℤ} → ¬ (a ≤ℤ b) → b <ℤ a
<ℤ_of_not_≤ℤ {a} {b} h = elim (≤ℤ_or_<ℤ a b) [ inl k ↦ absurd (h k) | inr k ↦ k ]

pub le_z_no : {a b : ℤ} → T (not (le_z a b)) → b <ℤ a
le_z_no {a} {b} t = <ℤ_of_not_≤ℤ (λ h. T_not (le_z a b) t h.le)

-- below, the same, or above
pub trichotomyℤ : (a b : ℤ) → (a <ℤ b) ⊎ (a ≡ b) ⊎ (b <ℤ a)
trichotomyℤ a b = elim (≤ℤ_or_<ℤ a b) [ inl h ↦ elim (≤ℤ_or_<ℤ b a) [ inl k ↦ inr (inl (≤ℤ_antisymm h k)) | inr k ↦ inl k ] | inr h ↦ inr (inr h) ]

pub <ℤ_iff_suc : {a b : ℤ} → (a <ℤ b) ↔ ((a +ℤ pos 1) ≤ℤ b)
<ℤ_iff_suc {a} {b} = simp spread (simp parts (omega arith))

-- ---- sums, differences and negation
pub +ℤ_mono : {a b c d : ℤ} → a ≤ℤ b → c ≤ℤ d → (a +ℤ c) ≤ℤ (b +ℤ d)
+ℤ_mono h k = given h (given k (simp spread (simp parts (omega arith))))

pub +ℤ_mono_< : {a b c d : ℤ} → a ≤ℤ b → c <ℤ d → (a +ℤ c) <ℤ (b +ℤ d)
+ℤ_mono_< h k = given h (given k (simp spread (simp parts (omega arith))))

pub +ℤ_cancel : {a b : ℤ} (c : ℤ) → ((a +ℤ c) ≤ℤ (b +ℤ c)) ↔ (a ≤ℤ b)
+ℤ_cancel {a} {b} c = simp spread (simp parts (omega arith))

pub +ℤ_cancel_< : {a b : ℤ} (c : ℤ) → ((a +ℤ c) <ℤ (b +ℤ c)) ↔ (a <ℤ b)
+ℤ_cancel_< {a} {b} c = simp spread (simp parts (omega arith))

pub difference_≥0 : {a b : ℤ} → (pos 0 ≤ℤ (b -ℤ a)) ↔ (a ≤ℤ b)
difference_≥0 {a} {b} = simp spread (simp parts (omega arith))

pub difference_>0 : {a b : ℤ} → (pos 0 <ℤ (b -ℤ a)) ↔ (a <ℤ b)
difference_>0 {a} {b} = simp spread (simp parts (omega arith))

pub neg_ℤ_≤ℤ : {a b : ℤ} → (neg_ℤ b ≤ℤ neg_ℤ a) ↔ (a ≤ℤ b)
neg_ℤ_≤ℤ {a} {b} = simp spread (simp parts (omega arith))

pub neg_ℤ_<ℤ : {a b : ℤ} → (neg_ℤ b <ℤ neg_ℤ a) ↔ (a <ℤ b)
neg_ℤ_<ℤ {a} {b} = simp spread (simp parts (omega arith))

-- ---- natural numbers
pub pos_≤ℤ : {m n : ℕ} → (pos m ≤ℤ pos n) ↔ (m ≤ n)
pos_≤ℤ {m} {n} = simp spread (simp parts (omega arith))

pub pos_<ℤ : {m n : ℕ} → (pos m <ℤ pos n) ↔ (m < n)
pos_<ℤ {m} {n} = simp spread (simp parts (omega arith))

pub pos_inj : {m n : ℕ} → pos m ≡ pos n → m ≡ n
pos_inj h = cc

pub pos_≥0 : (n : ℕ) → pos 0 ≤ℤ pos n
pos_≥0 n = le_z_yes (le→leb 0 n zero-le)

pub natural : (a : ℤ) → pos 0 ≤ℤ a → (n : ℕ) × (a ≡ pos n)
natural (pos n) h = (n, refl)
natural (negsuc n) h = absurd h.le
