-- Marks by bits: the last bit of two numbers joined bit by bit is 0 where both are even, and a mark joined to a number makes it odd where the mark is 1.
use mathlib.Core.Path.{◌≡◌}
use mathlib.Core.Logic.{◌⊎◌, inl, inr}
use Prim.Native.Nat.{ℕ, zero, suc, ◌+◌, ◌-◌, ◌*◌, ◌/◌, ◌%◌, ◌≤◌, max}
use native.Mathlib.Omega.{arith}
use lib.Bits.{bit_or, or_step, or_zero_r}
use Rattle.exact.proofs.Powers.{parity}

pub open_mark : (s t : ℕ) → bit_or s t % 2 ≡ 1 - (1 - s % 2) * (1 - t % 2)
open_mark s t = rw (or_step s t) (by (parity s) (parity t))
  where
    by : (s % 2 ≡ 0) ⊎ (s % 2 ≡ 1) → (t % 2 ≡ 0) ⊎ (t % 2 ≡ 1) → (bit_or (s / 2) (t / 2) * 2 + max (s % 2) (t % 2)) % 2 ≡ 1 - (1 - s % 2) * (1 - t % 2)
    by (inl e) (inl f) = rw (e, f) (omega arith)
    by (inl e) (inr f) = rw (e, f) (omega arith)
    by (inr e) (inl f) = rw (e, f) (omega arith)
    by (inr e) (inr f) = rw (e, f) (omega arith)

pub with_mark : (a u : ℕ) → u ≤ 1 → bit_or a u ≡ a + (1 - a % 2) * u
with_mark a zero h = rw (or_zero_r a) (omega arith)
with_mark a (suc zero) h = rw (or_step a 1, or_zero_r (a / 2)) (by (parity a))
  where
    by : (a % 2 ≡ 0) ⊎ (a % 2 ≡ 1) → a / 2 * 2 + max (a % 2) 1 ≡ a + (1 - a % 2) * 1
    by (inl e) = rw e (omega arith)
    by (inr e) = rw e (omega arith)
with_mark a (suc (suc u)) h = absurd (omega arith)
