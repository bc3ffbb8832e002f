-- Linear facts over the whole numbers, with the hypotheses in scope: `given h (given k (simp spread (simp parts (omega arith))))`.
-- A fact is read as "0 ≤ a + p - n" with natural p and n, into which the summands of a go one by one; what is left is `omega`'s.
-- It reads ≤, < and ≡ over sums, differences, negations, numerals, `pos` of natural numbers and products, which it multiplies out.
use mathlib.Core.Path.{◌≡◌, ap}
use mathlib.Core.Logic.{◌↔◌}
use Prim.Native.Nat.{ℕ, ◌+◌, ◌≤◌}
use native.Mathlib.Omega.{arith}
use lib.IntN.{ℤ, pos, ◌+ℤ◌, ◌-ℤ◌, ◌*ℤ◌, +ℤ_assoc, neg_ℤ-+ℤ, neg_ℤ-neg_ℤ}
use lib.Signed.{◌≤ℤ◌, ◌<ℤ◌}
use Rattle.exact.proofs.Parts.{up, dn, up_pos, dn_pos, up_negsuc, dn_negsuc, up_neg, dn_neg, up_mul, dn_mul, sum_parts, difference_parts, same, le_of_parts, parts_of_le, lt_of_parts, parts_of_lt}
use Rattle.exact.proofs.Whole.{*ℤ_+ℤ, +ℤ_*ℤ, *ℤ_neg_ℤ, neg_ℤ_*ℤ}

-- 0 ≤ a + p - n
pub Above : ℕ → ℕ → ℤ → Type 0
Above p n a = n + dn a ≤ p + up a

-- ---- a fact as such a fact
pub above_le : {a b : ℤ} → (a ≤ℤ b) ↔ Above 0 0 (b -ℤ a)
unfolding Above
above_le {a} {b} = (λ h. omega (arith, parts_of_le h, difference_parts b a), λ h. le_of_parts a b (omega (arith, difference_parts b a)))

pub above_lt : {a b : ℤ} → (a <ℤ b) ↔ Above 0 1 (b -ℤ a)
unfolding Above
above_lt {a} {b} = (λ h. omega (arith, parts_of_lt h, difference_parts b a), λ h. lt_of_parts a b (omega (arith, difference_parts b a)))

pub above_same : {a b : ℤ} → (a ≡ b) ↔ (Above 0 0 (b -ℤ a) × Above 0 0 (a -ℤ b))
unfolding Above
above_same {a} {b} = (
  λ h. omega (arith, difference_parts b a, difference_parts a b, ap up h, ap dn h),
  λ h. same a b (omega (arith, h.0, h.1, difference_parts b a, difference_parts a b)),
)

-- ---- a summand goes into the parts
pub above_sum : (p n : ℕ) (a b : ℤ) → Above p n (a +ℤ b) ↔ Above (p + up a) (n + dn a) b
unfolding Above
above_sum p n a b = (λ h. omega (arith, sum_parts a b), λ h. omega (arith, sum_parts a b))

pub above_end : (p n : ℕ) (a : ℤ) → Above p n a ↔ (n + dn a ≤ p + up a)
unfolding Above
above_end p n a = (λ h. h, λ h. h)

pub ruleset spread = (above_le, above_lt, above_same, neg_ℤ-+ℤ, neg_ℤ-neg_ℤ, *ℤ_+ℤ, +ℤ_*ℤ, *ℤ_neg_ℤ, neg_ℤ_*ℤ, +ℤ_assoc)

pub ruleset parts = (above_sum, above_end, up_pos, dn_pos, up_negsuc, dn_negsuc, up_neg, dn_neg, up_mul, dn_mul)

-- a hypothesis, put before the goal
abbrev pub given : {A G : Type 0} → A → (A → G) → G
given a f = f a

-- a use: the hypotheses are handed over, `spread` writes each fact as a sum, `parts` as a fact about natural numbers
example : (a b c d : ℤ) → a ≡ b *ℤ c → d <ℤ a → (d +ℤ b) <ℤ (b *ℤ (c +ℤ pos 1))
example a b c d h k = given h (given k (simp spread (simp parts (omega arith))))
