-- The whole numbers are a commutative ring: the laws of the product that the library's ℤ lacks. Each is an equation of parts (`Parts`).
use mathlib.Core.Path.{◌≡◌, sym, ap, ◌∙◌}
use Prim.Native.Nat.{ℕ, ◌+◌, ◌*◌}
use native.Mathlib.Omega.{arith}
use lib.IntN.{ℤ, pos, neg_ℤ, ◌+ℤ◌, ◌-ℤ◌, ◌*ℤ◌, *ℤ_comm, +ℤ_assoc, +ℤ_comm, +ℤ_idl, -ℤ-+ℤ_cancel}
use Rattle.exact.proofs.Parts.{up, dn, up_neg, dn_neg, up_mul, dn_mul, sum_parts, same, up_pos, dn_pos}

pub *ℤ_assoc : (a b c : ℤ) → a *ℤ b *ℤ c ≡ a *ℤ (b *ℤ c)
*ℤ_assoc a b c = same (a *ℤ b *ℤ c) (a *ℤ (b *ℤ c)) (simp (up_mul, dn_mul) (omega arith))

pub *ℤ_+ℤ : (a b c : ℤ) → a *ℤ (b +ℤ c) ≡ a *ℤ b +ℤ a *ℤ c
*ℤ_+ℤ a b c =
    let times : (k : ℕ) → k * (up (b +ℤ c) + (dn b + dn c)) ≡ k * (up b + up c + dn (b +ℤ c)) = λ k. ap (λ (n : ℕ). k * n) (sum_parts b c) in
    let sum = simp (up_mul, dn_mul) at (sum_parts (a *ℤ b) (a *ℤ c)) in
    same (a *ℤ (b +ℤ c)) (a *ℤ b +ℤ a *ℤ c) (simp (up_mul, dn_mul) (omega (arith, sum, times (up a), times (dn a))))

pub +ℤ_*ℤ : (a b c : ℤ) → (a +ℤ b) *ℤ c ≡ a *ℤ c +ℤ b *ℤ c
+ℤ_*ℤ a b c = simp (*ℤ_comm (a +ℤ b) c, *ℤ_+ℤ, *ℤ_comm c)

pub *ℤ_neg_ℤ : (a b : ℤ) → a *ℤ neg_ℤ b ≡ neg_ℤ (a *ℤ b)
*ℤ_neg_ℤ a b = same (a *ℤ neg_ℤ b) (neg_ℤ (a *ℤ b)) (simp (up_mul, dn_mul, up_neg, dn_neg) (omega arith))

pub neg_ℤ_*ℤ : (a b : ℤ) → neg_ℤ a *ℤ b ≡ neg_ℤ (a *ℤ b)
neg_ℤ_*ℤ a b = same (neg_ℤ a *ℤ b) (neg_ℤ (a *ℤ b)) (simp (up_mul, dn_mul, up_neg, dn_neg) (omega arith))

pub *ℤ_idr : (a : ℤ) → a *ℤ pos 1 ≡ a
*ℤ_idr a = same (a *ℤ pos 1) a (simp (up_mul, dn_mul, up_pos, dn_pos) (omega arith))

pub *ℤ_idl : (a : ℤ) → pos 1 *ℤ a ≡ a
*ℤ_idl a = *ℤ_comm (pos 1) a ∙ *ℤ_idr a

pub +ℤ_left_comm : (a b c : ℤ) → a +ℤ (b +ℤ c) ≡ b +ℤ (a +ℤ c)
+ℤ_left_comm a b c = sym (+ℤ_assoc a b c) ∙ ap (λ (z : ℤ). z +ℤ c) (+ℤ_comm a b) ∙ +ℤ_assoc b a c

pub *ℤ_left_comm : (a b c : ℤ) → a *ℤ (b *ℤ c) ≡ b *ℤ (a *ℤ c)
*ℤ_left_comm a b c = sym (*ℤ_assoc a b c) ∙ ap (λ (z : ℤ). z *ℤ c) (*ℤ_comm a b) ∙ *ℤ_assoc b a c

-- two numbers are the same where their difference is 0
pub same_of_difference : (a b : ℤ) → a -ℤ b ≡ pos 0 → a ≡ b
same_of_difference a b h = sym (-ℤ-+ℤ_cancel a b) ∙ ap (λ (z : ℤ). z +ℤ b) h ∙ +ℤ_idl b
