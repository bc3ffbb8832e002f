-- A whole number is the difference of two natural numbers, of which one is 0: `up z` and `dn z`. Sums, products and negations
-- of whole numbers have exact laws in these parts, so a fact about whole numbers is a fact about natural numbers, which `omega` proves.
use mathlib.Core.Path.{◌≡◌, refl, ap}
use mathlib.Core.Bool.{Bool, true, false, not, cond}
use Prim.Native.Nat.{ℕ, zero, suc, ◌+◌, ◌*◌, ◌-◌, ◌≤◌, ◌<◌}
use native.Mathlib.Omega.{arith}
use lib.IntN.{ℤ, pos, negsuc, neg_ℤ, sub_ℕ, ◌+ℤ◌, ◌-ℤ◌, ◌*ℤ◌}
use lib.Signed.{◌≤ℤ◌, ◌<ℤ◌, le_z_yes, lt_z_yes}
use lib.Dec.{T, ltb, ltb→lt, nltb→le, lt→ltb, leb→le, le→leb}

-- ---- the two parts
unfoldable pub up : ℤ → ℕ
up (pos n) = n
up (negsuc n) = 0

unfoldable pub dn : ℤ → ℕ
dn (pos n) = 0
dn (negsuc n) = suc n

pub up_pos : (n : ℕ) → up (pos n) ≡ n
unfolding up
up_pos n = refl

pub dn_pos : (n : ℕ) → dn (pos n) ≡ 0
unfolding dn
dn_pos n = refl

pub up_negsuc : (n : ℕ) → up (negsuc n) ≡ 0
unfolding up
up_negsuc n = refl

pub dn_negsuc : (n : ℕ) → dn (negsuc n) ≡ suc n
unfolding dn
dn_negsuc n = refl

-- ---- operations
pub up_neg : (a : ℤ) → up (neg_ℤ a) ≡ dn a
unfolding up dn
up_neg (pos zero) = refl
up_neg (pos (suc n)) = refl
up_neg (negsuc n) = refl

pub dn_neg : (a : ℤ) → dn (neg_ℤ a) ≡ up a
unfolding up dn
dn_neg (pos zero) = refl
dn_neg (pos (suc n)) = refl
dn_neg (negsuc n) = refl

difference : (a b : ℕ) → up (sub_ℕ a b) + b ≡ a + dn (sub_ℕ a b)
unfolding up dn
difference a b = by_test (ltb a b) (λ t. ltb→lt a b t) (λ t. nltb→le a b t)
  where
    -- the number that `sub_ℕ` is, by its test
    tested : Bool → ℤ
    tested c = cond c (negsuc (b - suc a)) (pos (a - b))

    by_test : (c : Bool) → (T c → a < b) → (T (not c) → b ≤ a) → up (tested c) + b ≡ a + dn (tested c)
    by_test true f g = omega (arith, f tt)
    by_test false f g = omega (arith, g tt)

pub sum_parts : (a b : ℤ) → up (a +ℤ b) + (dn a + dn b) ≡ up a + up b + dn (a +ℤ b)
unfolding up dn
sum_parts (pos a) (pos b) = omega arith
sum_parts (pos a) (negsuc b) = omega (arith, difference a (suc b))
sum_parts (negsuc a) (pos b) = omega (arith, difference b (suc a))
sum_parts (negsuc a) (negsuc b) = omega arith

pub difference_parts : (a b : ℤ) → up (a -ℤ b) + (dn a + up b) ≡ up a + dn b + dn (a -ℤ b)
difference_parts a b = omega (arith, sum_parts a (neg_ℤ b), up_neg b, dn_neg b)

pub up_mul : (a b : ℤ) → up (a *ℤ b) ≡ up a * up b + dn a * dn b
unfolding up dn
up_mul (pos a) (pos b) = omega arith
up_mul (pos a) (negsuc b) = omega (arith, up_neg (pos (a * suc b)))
up_mul (negsuc a) (pos b) = omega (arith, up_neg (pos (suc a * b)))
up_mul (negsuc a) (negsuc b) = omega arith

pub dn_mul : (a b : ℤ) → dn (a *ℤ b) ≡ up a * dn b + dn a * up b
unfolding up dn
dn_mul (pos a) (pos b) = omega arith
dn_mul (pos a) (negsuc b) = omega (arith, dn_neg (pos (a * suc b)))
dn_mul (negsuc a) (pos b) = omega (arith, dn_neg (pos (suc a * b)))
dn_mul (negsuc a) (negsuc b) = omega arith

-- ---- equality and order
pub same : (a b : ℤ) → up a + dn b ≡ up b + dn a → a ≡ b
unfolding up dn
same (pos a) (pos b) h = ap pos (omega arith)
same (pos a) (negsuc b) h = absurd (omega arith)
same (negsuc a) (pos b) h = absurd (omega arith)
same (negsuc a) (negsuc b) h = ap negsuc (omega arith)

pub le_of_parts : (a b : ℤ) → up a + dn b ≤ up b + dn a → a ≤ℤ b
unfolding up dn
le_of_parts (pos a) (pos b) h = le_z_yes (le→leb a b (omega arith))
le_of_parts (pos a) (negsuc b) h = absurd (omega arith)
le_of_parts (negsuc a) (pos b) h = le_z_yes tt
le_of_parts (negsuc a) (negsuc b) h = le_z_yes (le→leb b a (omega arith))

pub parts_of_le : {a b : ℤ} → a ≤ℤ b → up a + dn b ≤ up b + dn a
unfolding up dn
parts_of_le {a = pos a} {b = pos b} h = omega (arith, leb→le a b h.le)
parts_of_le {a = pos a} {b = negsuc b} h = absurd h.le
parts_of_le {a = negsuc a} {b = pos b} h = omega arith
parts_of_le {a = negsuc a} {b = negsuc b} h = omega (arith, leb→le b a h.le)

pub lt_of_parts : (a b : ℤ) → up a + dn b < up b + dn a → a <ℤ b
unfolding up dn
lt_of_parts (pos a) (pos b) h = lt_z_yes (lt→ltb a b (omega arith))
lt_of_parts (pos a) (negsuc b) h = absurd (omega arith)
lt_of_parts (negsuc a) (pos b) h = lt_z_yes tt
lt_of_parts (negsuc a) (negsuc b) h = lt_z_yes (lt→ltb b a (omega arith))

pub parts_of_lt : {a b : ℤ} → a <ℤ b → up a + dn b < up b + dn a
unfolding up dn
parts_of_lt {a = pos a} {b = pos b} h = omega (arith, ltb→lt a b h.lt)
parts_of_lt {a = pos a} {b = negsuc b} h = absurd h.lt
parts_of_lt {a = negsuc a} {b = pos b} h = omega arith
parts_of_lt {a = negsuc a} {b = negsuc b} h = omega (arith, ltb→lt b a h.lt)
