-- Tiles and cells in plain arithmetic: the tiles are twice 2^n, and half a turn of their circle brings the closed NaR to 0 and the open
-- one to 1, so that what is taken away after it is there.
use mathlib.Core.Path.{◌≡◌, sym, ap, ◌∙◌}
use mathlib.Core.Logic.{◌≢◌}
use Prim.Native.Nat.{ℕ, ◌+◌, ◌-◌, ◌*◌, ◌/◌, ◌%◌, ◌^◌, ◌≤◌, ◌<◌}
use native.Mathlib.Nat.{mod-eq_of_lt, mod-lt, lt_of_lt_of_le}
use native.Mathlib.Omega.{arith}
use native.Mathlib.Decide.{dec_lt, ℕ_discrete}
use lib.Pow.{pow_mono, pow_pos, shr_lt}
use borrow.Author.Tests.{eq-eqb, ne_eqb}
use Rattle.posit.proofs.Mirror.{nar_is_half, power_wider}
use Rattle.posit.proofs.Patterns.{some_bit}
use Rattle.word.specs.Word.{tiles, words, closed_nar, open_nar}
use Rattle.word.specs.Spans.{top_cell, end_cell, end_tile_at}
use Rattle.word.proofs.Grid.{once_over}

-- ---- powers of two
pub half_small : {n : ℕ} → n ≤ 16 → 2 ^ n ≤ 65536
half_small h = pow_mono h

pub half_large : {n : ℕ} → 3 ≤ n → 8 ≤ 2 ^ n
half_large h = pow_mono h

pub closed_half : {n : ℕ} → 3 ≤ n → closed_nar n ≡ 2 ^ n
closed_half {n} h = sym (nar_is_half n (some_bit n h))

pub open_half : {n : ℕ} → 3 ≤ n → open_nar n ≡ 2 ^ n + 1
open_half {n} h = ap (λ (x : ℕ). x + 1) (closed_half h)

-- ---- half a turn
module _ (t h : ℕ) where
  turn_low : t < h → (t + h) % (2 * h) ≡ t + h
  turn_low l = mod-eq_of_lt (omega arith)

  turn_high : h ≤ t → t < 2 * h → (t + h) % (2 * h) ≡ t - h
  turn_high l u = once_over {x = t + h} {m = 2 * h} (omega arith) (omega arith) ∙ omega arith

  -- a mark stays
  module _ (k : ℕ) (even : h ≡ 2 * k) (u : t < 2 * h) where
    turn_mark : (t + h) % (2 * h) % 2 ≡ t % 2
    turn_mark = go (dec_lt t h)
      where
        go : Dec (t < h) → (t + h) % (2 * h) % 2 ≡ t % 2
        go (yes l) = omega (arith, turn_low l)
        go (no l) = omega (arith, turn_high (omega arith) u)

    turn_beyond : 1 ≤ k → (t ≡ h → ⊥) → (t ≡ h + 1 → ⊥) → 2 * (t % 2) + 1 ≤ (t + h) % (2 * h)
    turn_beyond p d o = go (dec_lt t h)
      where
        go : Dec (t < h) → 2 * (t % 2) + 1 ≤ (t + h) % (2 * h)
        go (yes l) = omega (arith, turn_low l)
        go (no l) = omega (arith, turn_high (omega arith) u)

-- the last cell before an end tile that came to b
module _ (b h : ℕ) where
  last_open : b ≡ 1 → 1 ≤ h → (b + 2 * h - 1 - 2 * (b % 2)) % (2 * h) ≡ 2 * h - 2
  last_open e p = let d : b + 2 * h - 1 - 2 * (b % 2) ≡ 2 * h - 2 = omega arith in rw d (mod-eq_of_lt (omega arith))

  last_finite : 2 * (b % 2) + 1 ≤ b → b < 2 * h → (b + 2 * h - 1 - 2 * (b % 2)) % (2 * h) ≡ b - 1 - 2 * (b % 2)
  last_finite l u = once_over {x = b + 2 * h - 1 - 2 * (b % 2)} {m = 2 * h} (omega arith) (omega arith) ∙ omega arith

-- ---- the last cell before an end tile, from where half a turn brings the tile
pub end_cell_is : (n : ℕ) → 3 ≤ n → (t : ℕ) → t < tiles n → t ≢ closed_nar n → {b half : ℕ} → b ≡ (t + 2 ^ n) % tiles n → half ≡ 2 ^ n
    → (b + 2 * half - 1 - 2 * (b % 2)) % (2 * half) ≡ end_cell n t
end_cell_is n w t u d {b} {half} turned is_half = go (ℕ_discrete t (open_nar n))
  where
    came : b ≡ (t + half) % (2 * half)
    came = turned ∙ rw (is_half, power_wider n)

    there : t < 2 * half
    there = omega (arith, power_wider n)

    go : Dec (t ≡ open_nar n) → (b + 2 * half - 1 - 2 * (b % 2)) % (2 * half) ≡ end_cell n t
    go (yes e) =
        last_open b half (came ∙ turn_high t half (omega (arith, open_half w)) there ∙ omega (arith, open_half w)) (omega (arith, half_large w))
        ∙ rw (eq-eqb t (open_nar n) e) (omega (arith, power_wider n))
    go (no o) =
        let even : half ≡ 2 * 2 ^ (n - 1) = is_half ∙ sym (closed_half w) in
        let mark : b % 2 ≡ t % 2 = ap (λ (x : ℕ). x % 2) came ∙ turn_mark t half (2 ^ (n - 1)) even there in
        let beyond : 2 * (t % 2) + 1 ≤ b =
        rw came (turn_beyond t half (2 ^ (n - 1)) even there (pow_pos (n - 1)) (λ i. d (omega (arith, closed_half w))) (λ i. o (omega (arith, open_half w))))
        in
        last_finite b half (omega arith) (rw came (mod-lt (t + half) (omega (arith, half_large w))))
        ∙ rw (ne_eqb t (open_nar n) o) (omega arith)

-- ---- a closed NaR, and no other tile, comes to 0
module _ {n : ℕ} (wide : 3 ≤ n) (t : ℕ) (there : t < tiles n) {b : ℕ} (came : b ≡ (t + 2 ^ n) % tiles n) where
  twice : tiles n ≡ 2 * 2 ^ n
  twice = omega (arith, power_wider n)

  turned : b ≡ (t + 2 ^ n) % (2 * 2 ^ n)
  turned = came ∙ ap (λ (m : ℕ). (t + 2 ^ n) % m) twice

  pub closed_from_zero : b ≡ 0 → t ≡ closed_nar n
  closed_from_zero e = go (dec_lt t (2 ^ n))
    where
      go : Dec (t < 2 ^ n) → t ≡ closed_nar n
      go (yes l) = absurd (omega (arith, turn_low t (2 ^ n) l, turned, e, pow_pos n))
      go (no l) = omega (arith, turn_high t (2 ^ n) (omega (arith, l)) (omega (arith, twice)), turned, e, closed_half wide)

  pub closed_to_zero : t ≡ closed_nar n → b ≡ 0
  closed_to_zero e = omega (arith, turn_high t (2 ^ n) (omega (arith, e, closed_half wide)) (omega (arith, twice)), turned, e, closed_half wide)

-- ---- the end tile of a cell, where the topmost comes out as an open NaR by itself
module _ (n : ℕ) {half : ℕ} (is_half : half ≡ 2 ^ n) where
  pub end_tile_is : 3 ≤ n → (c : ℕ) → (c + 3 - 2 * (c % 2) + half) % (2 * half) ≡ end_tile_at n c
  end_tile_is w c = go (ℕ_discrete c (2 * half - 2))
    where
      go : Dec (c ≡ 2 * half - 2) → (c + 3 - 2 * (c % 2) + half) % (2 * half) ≡ end_tile_at n c
      go (yes e) =
          let d : c + 3 - 2 * (c % 2) + half ≡ 2 * half + (half + 1) = omega (arith, is_half, half_large w) in
          rw (d, eq-eqb c (top_cell n) (omega (arith, power_wider n)))
          (once_over {x = 2 * half + (half + 1)} {m = 2 * half} (omega arith) (omega (arith, half_large w)) ∙ omega (arith, open_half w))
      go (no d) = rw (ne_eqb c (top_cell n) (λ e. d (omega (arith, power_wider n))), is_half, power_wider n)

-- ---- a tile of a word
pub start_tile_small : {n w all : ℕ} → n ≤ 16 → w < words n → all ≡ tiles n → w / all < 2 ^ 32
start_tile_small {n} {w} h u e = rw e (shr_lt 32 (n + 1) (lt_of_lt_of_le u (pow_mono {i = 2 * n + 2} {j = 32 + (n + 1)} (omega arith))))
