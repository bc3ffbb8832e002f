-- G w x over 2^w depends on x over 2^w alone: two widths are compared by bringing both to their sum, where G increases.
use Rattle.std.proofs.Common.{◌≡◌, ℕ, zero, suc, ◌+◌, ◌*◌, ◌^◌, ◌<◌, ◌≤◌, ◌⊎◌, ap, ◌∙◌, inl, inr, add-suc, add_comm, eq-or-lt_of_le, arith}
use native.Mathlib.Nat.{pow-succ'}
use Rattle.posit.proofs.Growth.{G, g_wider, g_increases}

pub g_longer : (w k x : ℕ) → G (w + k) (x * 2 ^ k) ≡ 2 ^ k * G w x
g_longer w zero x =
    let e : w + 0 ≡ w = omega arith in
    let f : x * 2 ^ 0 ≡ x = omega arith in
    rw (e, f) (omega arith)
g_longer w (suc k) x =
    let f : x * 2 ^ suc k ≡ 2 * (x * 2 ^ k) = rw (pow-succ' 2 k) (omega arith) in
    rw (add-suc w k, f) (g_wider (w + k) (x * 2 ^ k) ∙ rw (g_longer w k x, pow-succ' 2 k) (omega arith))

module _ (w x v y : ℕ) where
  pub g_lt : x * 2 ^ v < y * 2 ^ w → G w x * 2 ^ v < G v y * 2 ^ w
  g_lt h = omega (arith, g_increases (w + v) h, g_longer w v x, rw (add_comm v w) at (g_longer v w y))

  pub g_same : x * 2 ^ v ≡ y * 2 ^ w → G w x * 2 ^ v ≡ G v y * 2 ^ w
  g_same e = omega (arith, ap (G (w + v)) e, g_longer w v x, rw (add_comm v w) at (g_longer v w y))

  pub g_le : x * 2 ^ v ≤ y * 2 ^ w → G w x * 2 ^ v ≤ G v y * 2 ^ w
  g_le h = by (eq-or-lt_of_le h)
    where
      by : (x * 2 ^ v ≡ y * 2 ^ w) ⊎ (x * 2 ^ v < y * 2 ^ w) → G w x * 2 ^ v ≤ G v y * 2 ^ w
      by (inl e) = omega (arith, g_same e)
      by (inr l) = omega (arith, g_lt l)
