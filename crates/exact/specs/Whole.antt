-- Whole numbers are the library's ℤ with its order; beside it stands only what a fraction needs to be made.
use Rattle.std.specs.Prelude.{ℕ, ◌^◌, ◌<◌, ℤ, pos, negsuc, ◌*ℤ◌, ◌<ℤ◌}
use Rattle.std.proofs.Common.{mul-pos, ltb→lt, lt→ltb, pow_pos}
use Rattle.std.specs.Int.Signed.{lt_z_yes}

-- a natural number above 0 is a whole number above 0
pub above_zero : {k : ℕ} → 0 < k → pos 0 <ℤ pos k
above_zero {k} h = lt_z_yes (lt→ltb 0 k h)

-- a power of two is above 0
pub power_above : (k : ℕ) → pos 0 <ℤ pos (2 ^ k)
power_above k = above_zero (pow_pos k)

-- a product of two numbers above 0 is above 0
pub product_above : {a b : ℤ} → pos 0 <ℤ a → pos 0 <ℤ b → pos 0 <ℤ (a *ℤ b)
product_above {a = pos a} {b = pos b} h k = above_zero (mul-pos (ltb→lt 0 a h.lt) (ltb→lt 0 b k.lt))
product_above {a = pos a} {b = negsuc b} h k = absurd k.lt
product_above {a = negsuc a} h k = absurd h.lt
