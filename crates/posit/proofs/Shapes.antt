-- A pattern of b bits that is not 0 starts with zeros and a one, with ones and a zero, or is all ones; by the place of the closing bit each
-- reads as a run and a tail, and the value is the growth of the tail (`Tail`).
use Rattle.std.proofs.Common.{◌≡◌, ℕ, zero, suc, ◌+◌, ◌-◌, ◌*◌, ◌%◌, ◌^◌, ◌<◌, ◌≤◌, sym, ap, ◌∙◌, lt_irrefl, mul_assoc, one-mul, zero-mul, mul-one, arith, pow_pos, pow_mono, pow-add}
use native.Mathlib.Nat.{pow-succ', mod-one, add-mul-mod_self_right}
use native.Mathlib.Decide.{dec_lt, ℕ_discrete}
use lib.Pow.{low}
use lib.Count.{count_leading_zeros, leading_top}
use Rattle.posit.specs.Reading.{run}
use Rattle.posit.specs.Value.{multiple}
use Rattle.posit.proofs.Growth.{G, g_at_zero}
use Rattle.posit.proofs.Run.{bit_above, top_bit, run_of_zeros, run_of_ones, run_of_all_ones}
use Rattle.posit.proofs.Tail.{Reads, reads, multiple_is, scale_of_zeros, scale_of_ones}

-- b - (w + 1) zeros, a one and the w bits t; r + 1 ones, a zero and the w bits t; b ones
pub data Shape (b p : ℕ) : Type 0 where
  zeros : (w t : ℕ) → t < 2 ^ w → w + 1 < b → p ≡ 2 ^ w + t → Shape b p
  ones : (r w t : ℕ) → t < 2 ^ w → r + 2 + w ≡ b → p + 2 * 2 ^ w ≡ 2 ^ b + t → Shape b p
  all_ones : p + 1 ≡ 2 ^ b → Shape b p

-- ---- every pattern has a shape: the leading one of the pattern, or of what it lacks to all ones, closes the run
Top : ℕ → ℕ → Type 0
Top c q = (j : ℕ) × (count_leading_zeros c q + suc j ≡ c) × (2 ^ j ≤ q) × (q < 2 ^ suc j)

of_zeros : (c p : ℕ) → Top c p → Shape (suc c) p
unfolding Top
of_zeros c p (j, e, l, u) = zeros j (p - 2 ^ j) (omega arith) (omega arith) (omega arith)

of_ones : (c p q : ℕ) → p + q + 1 ≡ 2 ^ suc c → Top c q → Shape (suc c) p
unfolding Top
of_ones c p q s (j, e, l, u) = ones (c - suc j) j (2 ^ suc j - suc q) (omega arith) (omega arith) (omega arith)

by_top : (c p q : ℕ) → p + q + 1 ≡ 2 ^ suc c → 0 < p → Dec (p < 2 ^ c) → Dec (q ≡ 0) → Shape (suc c) p
unfolding Top
by_top c p q s h (yes z) d = of_zeros c p (leading_top c p h z)
by_top c p q s h (no z) (yes e) = all_ones (omega arith)
by_top c p q s h (no z) (no e) = of_ones c p q s (leading_top c q (omega arith) (omega arith))

pub shape : (b p : ℕ) → 0 < p → p < 2 ^ b → Shape b p
shape zero p h l = absurd (lt_irrefl 0 (omega arith))
shape (suc c) p h l =
    by_top c p (2 ^ suc c - suc p) (omega arith) h (dec_lt p (2 ^ c)) (ℕ_discrete (2 ^ suc c - suc p) 0)

-- ---- zeros, a one, the tail
module _ (b p w t : ℕ) (h : t < 2 ^ w) (l : w + 1 < b) (e : p ≡ 2 ^ w + t) where
  zeros_small : p < 2 ^ (b - 1)
  zeros_small = omega (arith, pow_mono {i = suc w} {j = b - 1} (omega arith))

  zeros_run : run 0 b p ≡ b - (w + 1)
  zeros_run = let s : b - (w + 1) + suc w ≡ b = omega arith in rw (s, ← e) at (run_of_zeros (b - (w + 1)) w t h)

  pub zeros_read : Reads b p 0 (b - (w + 1)) w t
  zeros_read = reads (bit_above (b - 1) zeros_small) zeros_run (omega arith) (rw e (rw (one-mul (2 ^ w)) at (low 1 w h)))

  pub zeros_value : (es : ℕ) → multiple b es p * 2 ^ w ≡ 2 ^ (w * 2 ^ es) * G w (t * 2 ^ es)
  zeros_value es = multiple_is es zeros_read w (omega (arith, pow_pos w)) (omega arith) (scale_of_zeros es w zeros_read (omega arith))

-- ---- ones, a zero, the tail
module _ (b p r w t : ℕ) (h : t < 2 ^ w) (l : r + 2 + w ≡ b) (e : p + 2 * 2 ^ w ≡ 2 ^ b + t) where
  ones_run : run 1 b p ≡ suc r
  ones_run =
      let s : suc r + suc w ≡ b = omega arith in
      rw s at (run_of_ones (suc r) w t 0 p h (rw s (omega arith)))

  ones_large : 2 ^ (b - 1) ≤ p × p < 2 ^ b
  ones_large =
      let s : 2 ^ b ≡ 2 * 2 ^ (b - 1) = ap (λ (n : ℕ). 2 ^ n) {x = b} {y = suc (b - 1)} (omega arith) ∙ pow-succ' 2 (b - 1) in
      omega (arith, pow_mono {i = suc w} {j = b - 1} (omega arith))

  ones_tail : p % 2 ^ w ≡ t
  ones_tail = sym (add-mul-mod_self_right p 2 (2 ^ w)) ∙ rw (e, ← l, pow-add 2 (r + 2) w) (low (2 ^ (r + 2)) w h)

  pub ones_read : Reads b p 1 (suc r) w t
  ones_read = reads (top_bit b p (omega arith) ones_large.0 ones_large.1) ones_run (omega arith) ones_tail

  pub ones_value : (es : ℕ) → multiple b es p * 2 ^ w ≡ 2 ^ ((2 * r + w + 1) * 2 ^ es) * G w (t * 2 ^ es)
  ones_value es =
      multiple_is es ones_read (2 * r + w + 1) (omega (arith, pow_pos (b - 1), ones_large.0)) (omega arith)
      (scale_of_ones es (2 * r + w + 1) ones_read (omega arith))

-- ---- all ones
module _ (c p : ℕ) (e : p + 1 ≡ 2 ^ suc c) where
  pub all_ones_read : Reads (suc c) p 1 (suc c) 0 0
  all_ones_read =
      reads (top_bit (suc c) p (omega arith) (omega (arith, ap (λ (n : ℕ). 2 ^ n) {x = suc c - 1} {y = c} (omega arith), pow_pos c)) (omega arith))
      (run_of_all_ones (suc c) 0 p (omega arith)) (omega arith) (mod-one p)

  pub all_ones_value : (es : ℕ) → multiple (suc c) es p ≡ 2 ^ (2 * (c * 2 ^ es))
  all_ones_value es =
      sym (mul-one (multiple (suc c) es p))
      ∙ multiple_is es all_ones_read (2 * c) (omega (arith, pow_pos c)) (omega arith) (scale_of_ones es (2 * c) all_ones_read (omega arith))
      ∙ rw (zero-mul (2 ^ es), g_at_zero 0, mul_assoc 2 c (2 ^ es)) (mul-one _)
