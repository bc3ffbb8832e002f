-- The numbers that locating works with fit their words: the highest bit stands between the bounds of the fraction, minPos's scale is small, and a
-- tail that is cut to few bits is short.
use Rattle.std.proofs.Common.{◌≡◌, ℕ, suc, ◌+◌, ◌-◌, ◌*◌, ◌/◌, ◌%◌, ◌^◌, ◌<◌, ◌≤◌, lt_of_lt_of_le, lt_of_le_of_lt, mod-lt, mul-lt-mul_of_pos_right, arith, pow_pos, pow_mono, pow-add, shr_lt}
use native.Mathlib.Nat.{pow-succ'}
use lib.Arith.{digits_lt}
use Rattle.exact.proofs.Powers.{pow_lt_cancel}
use Rattle.posit.specs.Parts.{HighestBit}

-- ---- the highest bit
pub high_at_least : {g h : ℕ} (k : ℕ) → 2 ^ k ≤ g → HighestBit g h → k ≤ h
high_at_least {g} {h} k l t = omega (arith, pow_lt_cancel k (suc h) (lt_of_le_of_lt l (rw (pow-succ' 2 h) t.less)))

pub high_below : {g h : ℕ} (k : ℕ) → g < 2 ^ k → HighestBit g h → h < k
high_below {g} {h} k l t = pow_lt_cancel h k (lt_of_le_of_lt t.at_least l)

-- ---- the bits below the highest, and the exponent before them
pub exponent_fits : (T es h : ℕ) {E H : ℕ} → h + es < 64 → E ≡ 2 ^ es → H ≡ 2 ^ h → T % E * H < 2 ^ 64
exponent_fits T es h l e i =
    rw (e, i)
    (lt_of_lt_of_le (mul-lt-mul_of_pos_right {m = T % 2 ^ es} {n = 2 ^ es} {k = 2 ^ h} (mod-lt T (pow_pos es)) (pow_pos h))
    (rw (← pow-add 2 es h) (pow_mono {i = es + h} {j = 64} (omega arith))))

pub behind_fits : (T es h g : ℕ) → HighestBit g h → T % 2 ^ es * 2 ^ h + (g - 2 ^ h) < 2 ^ (h + es)
behind_fits T es h g t =
    rw (pow-add 2 h es)
    (omega (arith, digits_lt {q = T % 2 ^ es} {m = 2 ^ es} {r = g - 2 ^ h} {c = 2 ^ h} (mod-lt T (pow_pos es)) (omega (arith, t.at_least, t.less))))

-- ---- a tail
pub tail_small : (w width x : ℕ) → w ≤ width → w ≤ 16 → x < 2 ^ width → x / 2 ^ (width - w) < 2 ^ 16
tail_small w width x h k l = let s : w + (width - w) ≡ width = omega arith in lt_of_lt_of_le (shr_lt w (width - w) (rw s l)) (pow_mono k)

-- ---- powers of few bits
pub double_within : (w n : ℕ) {P Q : ℕ} → w < n → P ≡ 2 ^ n → Q ≡ 2 ^ w → 2 * Q ≤ P
double_within w n h e i = rw (e, i) (omega (arith, pow_mono {i = suc w} {j = n} h))
