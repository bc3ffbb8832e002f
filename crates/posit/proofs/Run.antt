-- A run is as long as the equal bits that the pattern is made of: each bit of it is the quotient by a power of two, modulo 2.
use Rattle.std.proofs.Common.{◌≡◌, ℕ, zero, suc, ◌+◌, ◌-◌, ◌*◌, ◌^◌, ◌<◌, ◌≤◌, refl, ap, ◌∙◌, suc-add, zero-add, arith, pow_pos, pow_mono}
use native.Mathlib.Nat.{div-eq_of_lt, pow-succ'}
use lib.Pow.{high}
use Rattle.posit.specs.Reading.{bit, run}

-- ---- bits
pub bit_above : {p : ℕ} (i : ℕ) → p < 2 ^ i → bit p i ≡ 0
bit_above i h = rw (div-eq_of_lt h)

pub even_bit : (a i : ℕ) {p t : ℕ} → t < 2 ^ i → p ≡ 2 * a * 2 ^ i + t → bit p i ≡ 0
even_bit a i h e = rw (e, high (2 * a) i h) (omega arith)

pub odd_bit : (a i : ℕ) {p t : ℕ} → t < 2 ^ i → p ≡ suc (2 * a) * 2 ^ i + t → bit p i ≡ 1
odd_bit a i h e = rw (e, high (suc (2 * a)) i h) (omega arith)

pub top_bit : (b p : ℕ) → 0 < b → 2 ^ (b - 1) ≤ p → p < 2 ^ b → bit p (b - 1) ≡ 1
top_bit b p k h l =
    let s : 2 ^ b ≡ 2 * 2 ^ (b - 1) = ap (λ (n : ℕ). 2 ^ n) {x = b} {y = suc (b - 1)} (omega arith) ∙ pow-succ' 2 (b - 1) in
    odd_bit 0 (b - 1) {t = p - 2 ^ (b - 1)} (omega arith) (omega arith)

-- ---- a bit of the run, and the bit that closes it
zero_goes_on : (b p : ℕ) → bit p b ≡ 0 → run 0 (suc b) p ≡ suc (run 0 b p)
unfolding run
zero_goes_on b p e = rw (e, run)

one_closes : (b p : ℕ) → bit p b ≡ 1 → run 0 (suc b) p ≡ 0
unfolding run
one_closes b p e = rw (e, run)

one_goes_on : (b p : ℕ) → bit p b ≡ 1 → run 1 (suc b) p ≡ suc (run 1 b p)
unfolding run
one_goes_on b p e = rw (e, run)

zero_closes : (b p : ℕ) → bit p b ≡ 0 → run 1 (suc b) p ≡ 0
unfolding run
zero_closes b p e = rw (e, run)

-- ---- r zeros, a one, w bits
pub run_of_zeros : (r w t : ℕ) → t < 2 ^ w → run 0 (r + suc w) (2 ^ w + t) ≡ r
run_of_zeros zero w t h = rw zero-add (one_closes w (2 ^ w + t) (odd_bit 0 w h (omega arith)))
run_of_zeros (suc r) w t h =
    rw suc-add
    (zero_goes_on (r + suc w) (2 ^ w + t)
    (bit_above (r + suc w) (omega (arith, pow_mono {i = suc w} {j = r + suc w} (omega arith))))
    ∙ ap suc (run_of_zeros r w t h))

-- ---- behind any number a of bits: r ones, a zero, w bits
module _ (i w t : ℕ) (h : t < 2 ^ w) (l : suc w ≤ i) where
  below : (2 ^ i + t) - 2 ^ suc w < 2 ^ i
  below = omega (arith, pow_pos i, pow_pos w)

  apart : (a p : ℕ) → p + 2 ^ suc w ≡ suc a * 2 ^ suc i + t → p ≡ suc (2 * a) * 2 ^ i + ((2 ^ i + t) - 2 ^ suc w)
  apart a p e = omega (arith, rw (pow-succ' 2 i) at e, pow_mono l)

pub run_of_ones : (r w t a p : ℕ) → t < 2 ^ w → p + 2 ^ suc w ≡ suc a * 2 ^ (r + suc w) + t → run 1 (r + suc w) p ≡ r
run_of_ones zero w t a p h e =
    rw zero-add (zero_closes w p (even_bit a w h (omega (arith, rw (zero-add, pow-succ' 2 w) at e))))
run_of_ones (suc r) w t a p h e =
    rw suc-add
    (one_goes_on (r + suc w) p (odd_bit a (r + suc w) (below (r + suc w) w t h (omega arith)) (apart (r + suc w) w t h (omega arith) a p (rw suc-add at e)))
    ∙ ap suc (run_of_ones r w t (suc (2 * a)) p h (omega (arith, rw (suc-add, pow-succ' 2 (r + suc w)) at e))))

-- ---- behind any number a of bits: b ones
pub run_of_all_ones : (b a p : ℕ) → p + 1 ≡ suc a * 2 ^ b → run 1 b p ≡ b
unfolding run
run_of_all_ones zero a p e = refl
run_of_all_ones (suc b) a p e =
    one_goes_on b p (odd_bit a b {t = 2 ^ b - 1} (omega (arith, pow_pos b)) (omega (arith, rw (pow-succ' 2 b) at e, pow_pos b)))
    ∙ ap suc (run_of_all_ones b (suc (2 * a)) p (omega (arith, rw (pow-succ' 2 b) at e)))
