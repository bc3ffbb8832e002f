-- The parts that a pattern is taken into mean its multiple: the growth of a tail is its quotient and remainder, which are scale and significand.
use Rattle.std.proofs.Common.{◌≡◌, ℕ, zero, suc, ◌+◌, ◌-◌, ◌*◌, ◌/◌, ◌%◌, ◌^◌, ◌<◌, ◌≤◌, sym, refl, ap, ◌∙◌, subst, subst₂, lt_of_lt_of_le, mul-le-mul_right, mod-lt, mod-eq_of_lt, mul_assoc, div-lt_iff_lt-mul, le-div_iff_mul-le, arith, pow_pos, pow_mono, pow-add, shl_lt}
use native.Mathlib.Nat.{pow-succ', mul-lt-mul_of_pos_left, add-mul-mod_self_right}
use Rattle.posit.specs.declared.inner.unpack.Parts.{Parts}
use Rattle.posit.specs.Parts.{chosen_by, HighestBit, TailParts, PartsOf}
use Rattle.posit.specs.Value.{multiple}
use Rattle.posit.proofs.Growth.{G}
use Rattle.posit.proofs.Shapes.{zeros_value, ones_value, all_ones_value}
use Rattle.posit.proofs.SetBits.{highest_below}
use Rattle.posit.proofs.Chosen.{first_of_two, second_of}

-- ---- times 2^es, a tail and a regime still fit
pub times_power : (j : ℕ) {es x : ℕ} → es ≤ 2 → x < 2 ^ j → x * 2 ^ es < 2 ^ (j + 2)
times_power j {es} h u = lt_of_lt_of_le (shl_lt j es u) (pow_mono {i = j + es} {j = j + 2} (omega arith))

-- ---- a tail's quotient is below 2^es
exponent_less : (es w : ℕ) {tail : ℕ} → tail < 2 ^ w → tail * 2 ^ es / 2 ^ w < 2 ^ es
exponent_less es w {tail} h = (div-lt_iff_lt-mul {k = 2 ^ w} {x = tail * 2 ^ es} {y = 2 ^ es} (pow_pos w)).1 (omega (arith, mul-lt-mul_of_pos_left h (pow_pos es)))

scale_room : (regime q P c : ℕ) → q < P → regime + 1 ≤ 2 * c → regime * P + q ≤ 2 * (c * P)
scale_room regime q P c h l = omega (arith, mul-le-mul_right P l)

pub parts_of_tail : (b es p regime w tail : ℕ) {r : Parts} → TailParts es regime w tail r → tail < 2 ^ w → w + 2 ≤ b → regime + 1 ≤ 2 * (b - 1)
    → multiple b es p * 2 ^ w ≡ 2 ^ (regime * 2 ^ es) * G w (tail * 2 ^ es) → PartsOf b es p r
unfolding G
parts_of_tail b es p regime w tail {r} t h few room v =
    let x = tail * 2 ^ es in
    let rem : x % 2 ^ w < 2 ^ w = mod-lt x (pow_pos w) in
    record {
      says = rw (t.bits, t.scale, t.significand) (v ∙ sym (mul_assoc (2 ^ (regime * 2 ^ es)) (2 ^ (x / 2 ^ w)) (2 ^ w + x % 2 ^ w)) ∙ ap (λ (n : ℕ). n * (2 ^ w + x % 2 ^ w)) (sym (pow-add 2 (regime * 2 ^ es) (x / 2 ^ w))));
      at_least = rw (t.bits, t.significand) (omega arith);
      less = rw (t.bits, t.significand) (omega arith);
      few_bits = rw t.bits few;
      scale_fits = rw t.scale (scale_room regime (x / 2 ^ w) (2 ^ es) (b - 1) (exponent_less es w h) room);
    }

-- ---- by shape
pub zeros_parts : (b es p w : ℕ) {r : Parts} → HighestBit p w → 2 ≤ b → p < 2 ^ (b - 1) → TailParts es w w (p - 2 ^ w) r → PartsOf b es p r
zeros_parts b es p w h l u t =
    let low : w < b - 1 = highest_below (b - 1) h u in
    let tail : p - 2 ^ w < 2 ^ w = omega (arith, h.at_least, h.less) in
    parts_of_tail b es p w w (p - 2 ^ w) t tail (omega arith) (omega arith)
    (zeros_value b p w (p - 2 ^ w) tail (omega arith) (omega (arith, h.at_least)) es)

-- with a run of ones, the highest bit that is missing closes the run
pub record Ones (b p w : ℕ) : Type 0 where
  pub few : w + 2 ≤ b
  pub room : 2 ^ b ≤ p + 2 * 2 ^ w
  pub tail : p + 2 * 2 ^ w - 2 ^ b < 2 ^ w

pub ones_of : {b p w all : ℕ} → all ≡ 2 ^ b → 2 ≤ b → 2 ^ (b - 1) ≤ p → p < 2 ^ b → HighestBit (all - 1 - p) w → Ones b p w
ones_of {b} e l lo hi h =
    let s : 2 ^ b ≡ 2 * 2 ^ (b - 1) = ap (λ (n : ℕ). 2 ^ n) {x = b} {y = suc (b - 1)} (omega arith) ∙ pow-succ' 2 (b - 1) in
    let low = highest_below (b - 1) h (omega arith) in
    record { few = omega arith; room = omega (arith, h.less); tail = omega (arith, h.at_least, h.less) }

pub ones_small : {b p w : ℕ} → Ones b p w → b ≤ 15 → p < 2 ^ b → (2 * 2 ^ w ≤ 2 ^ 15) × (p < 2 ^ 15)
ones_small {b} {w = w} o h u = (omega (arith, pow_mono {i = suc w} {j = 15} (omega (arith, o.few))), lt_of_lt_of_le u (pow_mono {i = b} {j = 15} h))

pub ones_parts : (b es p w : ℕ) {r : Parts} → Ones b p w → TailParts es (2 * b - 3 - w) w (p + 2 * 2 ^ w - 2 ^ b) r → PartsOf b es p r
ones_parts b es p w o t =
    let few : w + 2 ≤ b = o.few in
    let k = b - 2 - w in
    let regime : 2 * b - 3 - w ≡ 2 * k + w + 1 = omega arith in
    parts_of_tail b es p (2 * b - 3 - w) w (p + 2 * 2 ^ w - 2 ^ b) t o.tail few (omega arith)
    (rw regime (ones_value b p k w (p + 2 * 2 ^ w - 2 ^ b) o.tail (omega arith) (omega (arith, o.room)) es))

pub all_ones_parts : (b es p P : ℕ) → 2 ≤ b → p + 1 ≡ 2 ^ b → P ≡ 2 ^ es → PartsOf b es p (record { scale = 2 * ((b - 1) * P); bits = 0; significand = 1 })
all_ones_parts b es p P l e q =
    let c : suc (b - 1) ≡ b = omega arith in
    rw q (record {
      says = ap (λ (n : ℕ). n * 1) (rw c at (all_ones_value (b - 1) p (rw c e) es));
      at_least = omega arith;
      less = omega arith;
      few_bits = omega arith;
      scale_fits = omega arith;
    })

-- ---- by the first bit, which is the quotient by 2^(b - 1)
pub data FirstBit (b p m : ℕ) : Type 0 where
  clear : m ≡ 0 → p < 2 ^ (b - 1) → FirstBit b p m
  set : m ≡ 1 → 2 ^ (b - 1) ≤ p → FirstBit b p m

twice : (b : ℕ) → 1 ≤ b → 2 ^ b ≡ 2 * 2 ^ (b - 1)
twice b l = ap (λ (n : ℕ). 2 ^ n) {x = b} {y = suc (b - 1)} (omega arith) ∙ pow-succ' 2 (b - 1)

pub first_bit : (b p : ℕ) {P : ℕ} → 1 ≤ b → p < 2 ^ b → P ≡ 2 ^ (b - 1) → FirstBit b p (p / P)
first_bit b p {P} l u e = rw e (go (p / 2 ^ (b - 1)) refl)
  where
    half : 0 < 2 ^ (b - 1)
    half = pow_pos (b - 1)

    below_two : p / 2 ^ (b - 1) < 2
    below_two = (div-lt_iff_lt-mul {k = 2 ^ (b - 1)} {x = p} {y = 2} half).1 (omega (arith, u, twice b l))

    go : (m : ℕ) → p / 2 ^ (b - 1) ≡ m → FirstBit b p (p / 2 ^ (b - 1))
    go zero z = clear z (omega (arith, (div-lt_iff_lt-mul {k = 2 ^ (b - 1)} {x = p} {y = 1} half).0 (omega (arith, z))))
    go (suc zero) z = set z (omega (arith, (le-div_iff_mul-le {k = 2 ^ (b - 1)} {x = 1} {y = p} half).0 (omega (arith, z))))
    go (suc (suc m)) z = absurd (omega (arith, z, below_two))

-- the mark, the run and the bit that closes it
module _ {b p m : ℕ} (l : 2 ≤ b) (u : p < 2 ^ b) (f : FirstBit b p m) where
  module _ {all run : ℕ} (a : all ≡ 2 ^ b) (c : run ≡ chosen_by m p (all - 1 - p)) where
    pub none_missing : 0 < p → run ≡ 0 → p + 1 ≡ 2 ^ b
    none_missing s z = go f
      where
        go : FirstBit b p m → p + 1 ≡ 2 ^ b
        go (clear e k) = absurd (omega (arith, s, sym (first_of_two m (all - 1 - p) c e) ∙ z))
        go (set e k) = omega (arith, sym (second_of m p c e) ∙ z, a, u)

    module _ {w : ℕ} (h : HighestBit run w) where
      as_zeros : m ≡ 0 → HighestBit p w
      as_zeros e = subst (λ (x : ℕ). HighestBit x w) (first_of_two m (all - 1 - p) c e) h

      as_ones : m ≡ 1 → 2 ^ (b - 1) ≤ p → Ones b p w
      as_ones e k = ones_of a l k u (subst (λ (x : ℕ). HighestBit x w) (second_of m p c e) h)

      pub closed_early : w + 2 ≤ b
      closed_early = go f
        where
          go : FirstBit b p m → w + 2 ≤ b
          go (clear e k) = omega (arith, highest_below (b - 1) (as_zeros e) k)
          go (set e k) = (as_ones e k).few

      -- what stands behind the closing bit is the remainder, whichever the run
      zeros_tail : HighestBit p w → p % 2 ^ w ≡ p - 2 ^ w
      zeros_tail g =
          ap (λ (x : ℕ). x % 2 ^ w) {x = p} {y = p - 2 ^ w + 1 * 2 ^ w} (omega (arith, g.at_least))
          ∙ add-mul-mod_self_right (p - 2 ^ w) 1 (2 ^ w) ∙ mod-eq_of_lt (omega (arith, g.at_least, g.less))

      whole_turns : Ones b p w → 2 ^ (b - w) * 2 ^ w ≡ 2 ^ b
      whole_turns o = sym (pow-add 2 (b - w) w) ∙ ap (λ (x : ℕ). 2 ^ x) {x = b - w + w} {y = b} (omega (arith, o.few))

      ones_tail : Ones b p w → p % 2 ^ w ≡ p + 2 * 2 ^ w - 2 ^ b
      ones_tail o =
          sym (add-mul-mod_self_right p 2 (2 ^ w))
          ∙ ap (λ (x : ℕ). x % 2 ^ w) {x = p + 2 * 2 ^ w} {y = p + 2 * 2 ^ w - 2 ^ b + 2 ^ (b - w) * 2 ^ w} (omega (arith, o.room, whole_turns o))
          ∙ add-mul-mod_self_right (p + 2 * 2 ^ w - 2 ^ b) (2 ^ (b - w)) (2 ^ w) ∙ mod-eq_of_lt o.tail

      pub parts_by_run : {es regime tail : ℕ} {r : Parts} → regime ≡ chosen_by m w (2 * b - 3 - w) → TailParts es regime w (p % tail) r → tail ≡ 2 ^ w → PartsOf b es p r
      parts_by_run {es} {regime} {tail} {r} i t j = go f
        where
          by : {x y : ℕ} → regime ≡ x → p % 2 ^ w ≡ y → TailParts es x w y r
          by k n = subst₂ (λ (x y : ℕ). TailParts es x w y r) k (ap (λ (z : ℕ). p % z) j ∙ n) t

          go : FirstBit b p m → PartsOf b es p r
          go (clear e k) = zeros_parts b es p w (as_zeros e) l k (by (first_of_two m (2 * b - 3 - w) i e) (zeros_tail (as_zeros e)))
          go (set e k) = ones_parts b es p w (as_ones e k) (by (second_of m w i e) (ones_tail (as_ones e k)))
