-- A summand that is far below the other one may be any other so far below: the sum stays between the same two neighbours among the numbers that a code can tell from it.
use Rattle.std.proofs.Common.{◌≡◌, ℕ, ◌+◌, ◌-◌, ◌*◌, ◌/◌, ◌%◌, ◌^◌, ◌<◌, ◌≤◌, max, Bool, true, false, not, ◌↔◌, Option, None, Some, pos, refl, ap, lt_of_lt_of_le, mul-le-mul_right, lt_of_mul-lt-mul_right, mul-pos, arith, pow_pos, pow_mono, pow-add, shl_lt, shr-shr}
use mathlib.Core.Logic.Iff
use native.Mathlib.Decide.{dec_le}
use lib.Pow.{mod-pow-add}
use Rattle.exact.specs.Fraction.{Fraction, ◌≈◌, ◌≤ᶠ◌, ◌<ᶠ◌, whole, over_power, ◌+ᶠ◌}
use Rattle.exact.proofs.Powers.{pow_lt_cancel, pow_split}
use Rattle.exact.proofs.WholeOrder.{pos_≤ℤ, pos_<ℤ, pos_inj}
use Rattle.exact.proofs.Order.{≈_refl, ≈_sym, ◌⨾◌, ≤ᶠ_≈, ≈_<ᶠ, <ᶠ_≈, ≤ᶠ_of_<ᶠ, ≤ᶠ_respects, <ᶠ_respects, <ᶠ_≤ᶠ_trans, clashᶠ}
use Rattle.exact.proofs.Sign.{>0, ≈0, not_≈0_of_>0, negᶠ_<0}
use Rattle.exact.proofs.Sum.{+ᶠ_comm}
use Rattle.exact.proofs.OverPower.{over_power_expand, over_power_≤ᶠ, over_power_<ᶠ, over_power_≈}
use Rattle.posit.specs.Locating.{given}
use Rattle.posit.specs.Magnitudes.{with_signᶠ}
use Rattle.posit.proofs.Summed.{sign_cong}
use Rattle.posit.specs.declared.inner.signed.Signed.{Signed}
use Rattle.code.specs.Code.{IsCode, scale_in, digits_in, code_value}
use Rattle.code.specs.Coded.{Codes, IsSignedSum, first}
use Rattle.code.proofs.Summed.{alike_over, more_over}

-- ---- codes
pub raised_code : {es x y : ℕ} → IsCode es x → IsCode es y → IsCode es (max x (y - 26 * 2 ^ 52))
raised_code is_x is_y =
    record {
      at_least = omega (arith, is_x.at_least);
      less = omega (arith, is_x.less, is_y.less);
      few = omega (arith, is_x.few, is_y.few);
    }

pub raised_near : (x y : ℕ) → max x (y - 26 * 2 ^ 52) ≤ max y (x - 26 * 2 ^ 52) + 26 * 2 ^ 52
raised_near x y = omega arith

-- ---- numbers strictly between two neighbouring multiples of a power of two
record Inside (j k z : ℕ) : Type 0 where
  low : k * 2 ^ j < z
  high : z < (k + 1) * 2 ^ j

module _ {j k y z : ℕ} (left : Inside j k y) (right : Inside j k z) (m : ℕ) where
  still_above : m * 2 ^ j ≤ y → m * 2 ^ j < z
  still_above h =
      let less : m < k + 1 = lt_of_mul-lt-mul_right (2 ^ j) (omega (arith, left.high)) in
      omega (arith, right.low, mul-le-mul_right {m = m} {n = k} (2 ^ j) (omega arith))

  still_below : y < m * 2 ^ j → z < m * 2 ^ j
  still_below h =
      let less : k < m = lt_of_mul-lt-mul_right (2 ^ j) (omega (arith, left.low)) in
      omega (arith, right.high, mul-le-mul_right {m = k + 1} {n = m} (2 ^ j) (omega arith))

-- ---- a number with 24 digits, in units of numbers with 52
module _ (u g s z : ℕ) where
  given_at_most : (given g s u ≤ᶠ over_power (pos z) (u + 28)) ↔ (g * 2 ^ s * 2 ^ 28 ≤ z)
  given_at_most =
      Iff.trans (≤ᶠ_respects (over_power_expand (pos (g * 2 ^ s)) u 28) (≈_refl (over_power (pos z) (u + 28))))
      (Iff.trans (over_power_≤ᶠ (u + 28)) pos_≤ℤ)

  given_below : (given g s u <ᶠ over_power (pos z) (u + 28)) ↔ (g * 2 ^ s * 2 ^ 28 < z)
  given_below =
      Iff.trans (<ᶠ_respects (over_power_expand (pos (g * 2 ^ s)) u 28) (≈_refl (over_power (pos z) (u + 28))))
      (Iff.trans (over_power_<ᶠ (u + 28)) pos_<ℤ)

  given_above : (over_power (pos z) (u + 28) <ᶠ given g s u) ↔ (z < g * 2 ^ s * 2 ^ 28)
  given_above =
      Iff.trans (<ᶠ_respects (≈_refl (over_power (pos z) (u + 28))) (over_power_expand (pos (g * 2 ^ s)) u 28))
      (Iff.trans (over_power_<ᶠ (u + 28)) pos_<ℤ)

as_multiple : (g s j : ℕ) → j ≤ s + 28 → g * 2 ^ s * 2 ^ 28 ≡ g * 2 ^ (s + 28 - j) * 2 ^ j
as_multiple g s j h = omega (arith, ap (λ (p : ℕ). g * p) (pow_split h), ap (λ (p : ℕ). g * p) (pow-add 2 s 28))

-- ---- what a code tells of one of them, it tells of the others
codes_respects : {es c : ℕ} {y z : Fraction} → y ≈ z → Codes es y c → Codes es z c
codes_respects e k =
    record {
      fits = k.fits;
      at_least = ≤ᶠ_≈ k.at_least e;
      less = ≈_<ᶠ (≈_sym e) k.less;
      whole_of_it = λ h. ≈_sym e ⨾ k.whole_of_it h;
      more_than_it = λ h. <ᶠ_≈ (k.more_than_it h) e;
    }

scale_enough : (g s j k y : ℕ) → g < 2 ^ 25 → 2 ^ 24 ≤ k → k * 2 ^ j < y → y < (g + 1) * 2 ^ s * 2 ^ 28 → j ≤ s + 28
scale_enough g s j k y few many low high =
    let less : 2 ^ (j + 24) < 2 ^ (s + 53) =
    omega (arith, pow-add 2 j 24, pow-add 2 s 53, mul-le-mul_right (2 ^ j) many, mul-le-mul_right {m = g + 1} {n = 2 ^ 25} (2 ^ s) (omega arith)) in
    omega (arith, pow_lt_cancel (j + 24) (s + 53) less)

first_digits : (c : ℕ) → c % 2 ^ 28 ≡ 0 → digits_in 52 c * 2 ^ scale_in 52 c ≡ digits_in 24 (first c) * 2 ^ scale_in 24 (first c) * 2 ^ 28
first_digits c none =
    let digits : digits_in 52 c ≡ digits_in 24 (first c) * 2 ^ 28 = omega (arith, mod-pow-add c 24 28) in
    rw (digits, shr-shr c 28 24) (omega arith)

module _ {es c j k y z : ℕ} (many : 2 ^ 24 ≤ k) (left : Inside j k y) (right : Inside j k z) (told : Codes es (over_power (pos y) (52 + 1023)) c) where
  above_first : digits_in 24 (first c) * 2 ^ scale_in 24 (first c) * 2 ^ 28 ≤ y
  above_first = (given_at_most (24 + 1023) (digits_in 24 (first c)) (scale_in 24 (first c)) y).0 told.at_least

  below_next : y < (digits_in 24 (first c) + 1) * 2 ^ scale_in 24 (first c) * 2 ^ 28
  below_next = (given_above (24 + 1023) (digits_in 24 (first c) + 1) (scale_in 24 (first c)) y).0 told.less

  multiple : (g : ℕ) → g * 2 ^ scale_in 24 (first c) * 2 ^ 28 ≡ g * 2 ^ (scale_in 24 (first c) + 28 - j) * 2 ^ j
  multiple g =
      as_multiple g (scale_in 24 (first c)) j
      (scale_enough (digits_in 24 (first c)) (scale_in 24 (first c)) j k y (omega arith) many left.low below_next)

  more : {w : ℕ} → Inside j k w → digits_in 24 (first c) * 2 ^ scale_in 24 (first c) * 2 ^ 28 < w
  more other =
      let m = multiple (digits_in 24 (first c)) in
      rw m (still_above left other (digits_in 24 (first c) * 2 ^ (scale_in 24 (first c) + 28 - j)) (rw m at above_first))

  less_than_next : z < (digits_in 24 (first c) + 1) * 2 ^ scale_in 24 (first c) * 2 ^ 28
  less_than_next =
      let m = multiple (digits_in 24 (first c) + 1) in
      rw m (still_below left right ((digits_in 24 (first c) + 1) * 2 ^ (scale_in 24 (first c) + 28 - j)) (rw m at below_next))

  not_whole : c % 2 ^ 28 ≡ 0 → ⊥
  not_whole none = omega (arith, more left, first_digits c none, pos_inj ((over_power_≈ (52 + 1023)).0 (told.whole_of_it none)))

  codes_alike : Codes es (over_power (pos z) (52 + 1023)) c
  codes_alike =
      let over = (given_below (24 + 1023) (digits_in 24 (first c)) (scale_in 24 (first c)) z).1 (more right) in
      record {
        fits = told.fits;
        at_least = ≤ᶠ_of_<ᶠ over;
        less = (given_above (24 + 1023) (digits_in 24 (first c) + 1) (scale_in 24 (first c)) z).1 less_than_next;
        whole_of_it = λ none. absurd (not_whole none);
        more_than_it = λ some. over;
      }

-- ---- the same with signs
codes_some : {es c : ℕ} {z : Fraction} → Codes es z c → whole (pos 0) <ᶠ z
codes_some {c = c} told = <ᶠ_≤ᶠ_trans (>0.1 (pos_<ℤ.1 (mul-pos {m = digits_in 24 (first c)} (omega arith) (pow_pos (scale_in 24 (first c)))))) told.at_least

one_sign : (b : Bool) (z : Fraction) → whole (pos 0) <ᶠ with_signᶠ b z → whole (pos 0) <ᶠ with_signᶠ (not b) z → ⊥
one_sign true z h k = clashᶠ h (≤ᶠ_of_<ᶠ (negᶠ_<0 k))
one_sign false z h k = clashᶠ k (≤ᶠ_of_<ᶠ (negᶠ_<0 h))

no_sign : (b : Bool) → with_signᶠ b (whole (pos 0)) ≈ whole (pos 0)
no_sign true = ≈0.1 refl
no_sign false = ≈0.1 refl

signed_respects : (es : ℕ) {y z : Fraction} (r : Option (Signed ℕ)) → y ≈ z → IsSignedSum es y r → IsSignedSum es z r
signed_respects es None e k = ≈_sym e ⨾ k
signed_respects es (Some s) e k = codes_respects (sign_cong s.negative e) k

module _ (es : ℕ) {j k y z : ℕ} (many : 2 ^ 24 ≤ k) (left : Inside j k y) (right : Inside j k z) (v w : Fraction) where
  told_alike : (b : Bool) (c : ℕ) → with_signᶠ b v ≈ over_power (pos y) (52 + 1023) → with_signᶠ b w ≈ over_power (pos z) (52 + 1023)
      → Codes es (with_signᶠ b v) c → Codes es (with_signᶠ b w) c
  told_alike b c is other told = codes_respects (≈_sym other) (codes_alike many left right (codes_respects is told))

  some : (b : Bool) → with_signᶠ b v ≈ over_power (pos y) (52 + 1023) → whole (pos 0) <ᶠ with_signᶠ b v
  some b is = <ᶠ_≈ (>0.1 (pos_<ℤ.1 (omega (arith, left.low)))) (≈_sym is)

  -- and the sign that is told is that of v
  sign_alike : (b negative : Bool) (c : ℕ) → with_signᶠ b v ≈ over_power (pos y) (52 + 1023) → with_signᶠ b w ≈ over_power (pos z) (52 + 1023)
      → Codes es (with_signᶠ negative v) c → Codes es (with_signᶠ negative w) c
  sign_alike true true c is other told = told_alike true c is other told
  sign_alike true false c is other told = absurd (one_sign true v (some true is) (codes_some told))
  sign_alike false true c is other told = absurd (one_sign false v (some false is) (codes_some told))
  sign_alike false false c is other told = told_alike false c is other told

  signed_alike : (b : Bool) (r : Option (Signed ℕ)) → with_signᶠ b v ≈ over_power (pos y) (52 + 1023) → with_signᶠ b w ≈ over_power (pos z) (52 + 1023)
      → IsSignedSum es v r → IsSignedSum es w r
  signed_alike b None is other none = absurd (not_≈0_of_>0 (some b is) (sign_cong b none ⨾ no_sign b))
  signed_alike b (Some s) is other told = sign_alike b s.negative s.size is other told

-- ---- a code's number, in units of 2^-1075
abbrev units_of : ℕ → ℕ
units_of c = digits_in 52 c * 2 ^ scale_in 52 c

units_some : (c : ℕ) → 0 < units_of c
units_some c = mul-pos {m = digits_in 52 c} (omega arith) (pow_pos (scale_in 52 c))

units_less : (c s : ℕ) → scale_in 52 c + 26 ≤ s → units_of c < 2 ^ (s + 27)
units_less c s h = lt_of_lt_of_le (shl_lt {a = digits_in 52 c} 53 (scale_in 52 c) (omega arith)) (pow_mono {i = 53 + scale_in 52 c} {j = s + 27} (omega arith))

units_multiple : (x : ℕ) → x % 2 ^ 38 ≡ 0 → units_of x ≡ digits_in 52 x / 2 ^ 27 * 2 ^ (scale_in 52 x + 27)
units_multiple x few =
    let digits : digits_in 52 x ≡ digits_in 52 x / 2 ^ 27 * 2 ^ 27 = omega arith in
    rw (pow-add 2 (scale_in 52 x) 27) (omega (arith, ap (λ (d : ℕ). d * 2 ^ scale_in 52 x) digits))

module _ (j k m n : ℕ) (is : m ≡ k * 2 ^ j) (some : 0 < n) (less : n < 2 ^ j) where
  inside_sum : Inside j k (m + n)
  inside_sum = record { low = omega arith; high = omega arith }

  inside_difference : 0 < k → Inside j (k - 1) (m - n)
  inside_difference positive =
      let back : k - 1 + 1 ≡ k = omega arith in
      let parts : m ≡ (k - 1) * 2 ^ j + 2 ^ j = omega (arith, ap (λ (i : ℕ). i * 2 ^ j) back) in
      record { low = omega arith; high = rw back (omega arith) }

-- ---- two numbers far below another one
module _ (es x y z : ℕ) (few : x % 2 ^ 38 ≡ 0) (left : scale_in 52 y + 26 ≤ scale_in 52 x) (right : scale_in 52 z + 26 ≤ scale_in 52 x) where
  more_far : (c : ℕ) → scale_in 52 c + 26 ≤ scale_in 52 x → Inside (scale_in 52 x + 27) (digits_in 52 x / 2 ^ 27) (units_of x + units_of c)
  more_far c h =
      inside_sum (scale_in 52 x + 27) (digits_in 52 x / 2 ^ 27) (units_of x) (units_of c) (units_multiple x few) (units_some c) (units_less c (scale_in 52 x) h)

  less_far : (c : ℕ) → scale_in 52 c + 26 ≤ scale_in 52 x → Inside (scale_in 52 x + 27) (digits_in 52 x / 2 ^ 27 - 1) (units_of x - units_of c)
  less_far c h =
      inside_difference (scale_in 52 x + 27) (digits_in 52 x / 2 ^ 27) (units_of x) (units_of c) (units_multiple x few) (units_some c) (units_less c (scale_in 52 x) h)
      (omega arith)

  far_alike : (b : Bool) (r : Option (Signed ℕ))
      → IsSignedSum es (with_signᶠ b (code_value 52 x) +ᶠ with_signᶠ b (code_value 52 y)) r
      → IsSignedSum es (with_signᶠ b (code_value 52 x) +ᶠ with_signᶠ b (code_value 52 z)) r
  far_alike b r =
      signed_alike es (omega arith) (more_far y left) (more_far z right)
      (with_signᶠ b (code_value 52 x) +ᶠ with_signᶠ b (code_value 52 y))
      (with_signᶠ b (code_value 52 x) +ᶠ with_signᶠ b (code_value 52 z))
      b r
      (alike_over (52 + 1023) (units_of x) (units_of y) b)
      (alike_over (52 + 1023) (units_of x) (units_of z) b)

  far_differ : (b : Bool) (r : Option (Signed ℕ))
      → IsSignedSum es (with_signᶠ b (code_value 52 x) +ᶠ with_signᶠ (not b) (code_value 52 y)) r
      → IsSignedSum es (with_signᶠ b (code_value 52 x) +ᶠ with_signᶠ (not b) (code_value 52 z)) r
  far_differ b r =
      signed_alike es (omega arith) (less_far y left) (less_far z right)
      (with_signᶠ b (code_value 52 x) +ᶠ with_signᶠ (not b) (code_value 52 y))
      (with_signᶠ b (code_value 52 x) +ᶠ with_signᶠ (not b) (code_value 52 z))
      b r
      (more_over (52 + 1023) (units_of x) (units_of y) b (omega (arith, (less_far y left).low)))
      (more_over (52 + 1023) (units_of x) (units_of z) b (omega (arith, (less_far z right).low)))

  far : (s t : Bool) (r : Option (Signed ℕ))
      → IsSignedSum es (with_signᶠ s (code_value 52 x) +ᶠ with_signᶠ t (code_value 52 y)) r
      → IsSignedSum es (with_signᶠ s (code_value 52 x) +ᶠ with_signᶠ t (code_value 52 z)) r
  far true true r = far_alike true r
  far true false r = far_differ true r
  far false true r = far_differ false r
  far false false r = far_alike false r

-- ---- the smaller one raised
raised_second : (es x y : ℕ) (s t : Bool) (r : Option (Signed ℕ)) → x % 2 ^ 38 ≡ 0 → y + 26 * 2 ^ 52 ≤ x
    → IsSignedSum es (with_signᶠ s (code_value 52 (max x (y - 26 * 2 ^ 52))) +ᶠ with_signᶠ t (code_value 52 (max y (x - 26 * 2 ^ 52)))) r
    → IsSignedSum es (with_signᶠ s (code_value 52 x) +ᶠ with_signᶠ t (code_value 52 y)) r
raised_second es x y s t r few below k =
    let stays : max x (y - 26 * 2 ^ 52) ≡ x = omega arith in
    let rises : max y (x - 26 * 2 ^ 52) ≡ x - 26 * 2 ^ 52 = omega arith in
    far es x (x - 26 * 2 ^ 52) y few (omega arith) (omega arith) s t r (rw (stays, rises) at k)

pub raised_signed : {es x y : ℕ} (s t : Bool) (r : Option (Signed ℕ)) → IsCode es x → IsCode es y
    → IsSignedSum es (with_signᶠ s (code_value 52 (max x (y - 26 * 2 ^ 52))) +ᶠ with_signᶠ t (code_value 52 (max y (x - 26 * 2 ^ 52)))) r
    → IsSignedSum es (with_signᶠ s (code_value 52 x) +ᶠ with_signᶠ t (code_value 52 y)) r
raised_signed {es} {x} {y} s t r is_x is_y k =
    elim (dec_le (y + 26 * 2 ^ 52) x) [
      | yes h ↦ raised_second es x y s t r is_x.few h k
      | no h ↦ elim (dec_le (x + 26 * 2 ^ 52) y) [
        | yes l ↦ signed_respects es r (+ᶠ_comm (with_signᶠ t (code_value 52 y)) (with_signᶠ s (code_value 52 x)))
            (raised_second es y x t s r is_y.few l
            (signed_respects es r (+ᶠ_comm (with_signᶠ s (code_value 52 (max x (y - 26 * 2 ^ 52)))) (with_signᶠ t (code_value 52 (max y (x - 26 * 2 ^ 52))))) k))
        | no l ↦
            let first_stays : max x (y - 26 * 2 ^ 52) ≡ x = omega arith in
            let second_stays : max y (x - 26 * 2 ^ 52) ≡ y = omega arith in
            rw (first_stays, second_stays) at k
      ]
    ]

pub raised_total : {es x y c : ℕ} → IsCode es x → IsCode es y
    → Codes es (code_value 52 (max x (y - 26 * 2 ^ 52)) +ᶠ code_value 52 (max y (x - 26 * 2 ^ 52))) c
    → Codes es (code_value 52 x +ᶠ code_value 52 y) c
raised_total {c = c} is_x is_y k = raised_signed false false (Some (record { negative = false; size = c })) is_x is_y k
