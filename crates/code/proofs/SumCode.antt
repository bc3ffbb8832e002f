-- The sum of two codes that are near is found in the bits of a double: it has no more than 41 digits, so that it is not rounded and its bits are its code.
use Rattle.std.proofs.Common.{◌≡◌, ℕ, ◌+◌, ◌-◌, ◌*◌, ◌%◌, ◌^◌, ◌<◌, ◌≤◌, max, Bool, true, false, not, T, ltb, leb, ◌≢◌, Option, None, Some, pos, sym, refl, ap, ◌∙◌, inl, inr, le_trans, lt_of_lt_of_le, mul-le-mul_right, mod-lt, mul_comm, eq-zero-or-pos, le_antisymm, pos_of_ne-zero, mul-pos, zero-add, zero-mul, arith, pow_pos, pow_mono, pow-add, shl_lt, le-ltb, lt-ltb, le-leb}
use native.Mathlib.Nat.{mul-sub}
use native.Mathlib.Decide.{dec_le, dec_lt}
use lib.Ieee.{Float, nan, inf, fin, Format, binary64, round, add, neg, sub, is_nan, nan_bits, of_bits, to_bits}
use lib.Ieee.Exact.{HasValue}
use lib.Ieee.Positive.{first_pos}
use mir.Val.{bool_byte}
use borrow.Author.Tests.{lt-leb}
use Rattle.exact.specs.Fraction.{Fraction, ◌≈◌, over_power, ◌+ᶠ◌}
use Rattle.exact.proofs.Order.{≈_sym, ◌⨾◌}
use Rattle.posit.specs.Magnitudes.{with_signᶠ}
use Rattle.posit.proofs.Summed.{sign_twice, sign_cong}
use Rattle.posit.specs.declared.inner.signed.Signed.{Signed}
use Rattle.code.specs.Code.{IsCode, scale_in, digits_in, code_value}
use Rattle.code.specs.Coded.{Codes, IsSignedSum}
use Rattle.code.proofs.Summed.{over_both, sign_none, alike_over, more_over, less_over, none_over}
use Rattle.code.proofs.Doubles.{same_value, no_nan, add_alike, add_more, add_less, add_none, none_written, bits_of}
use Rattle.code.proofs.CodeBits.{units_of, code_value_says, code_number, plain_value, plain_number, rounded, Bits, value_bits, fifteen, units_by_fifteen, code_held}
use Rattle.code.proofs.Known.{bits_codes}
use Rattle.code.proofs.Higher.{units_less}
use Rattle.code.proofs.Raised.{raised_code, raised_near, raised_total, raised_signed}

-- a sum that is told
abbrev signed : Bool → ℕ → Option (Signed ℕ)
signed negative size = Some (record { negative = negative; size = size })

-- ---- two codes that are near
-- both are multiples of one power of two, by numbers that together have no more than 41 digits
pub record Near (es M N : ℕ) : Type 0 where
  pub scale : ℕ
  pub first : ℕ
  pub second : ℕ
  pub says_first : M ≡ first * 2 ^ scale
  pub says_second : N ≡ second * 2 ^ scale
  pub few : first + second < 2 ^ 41
  pub least : 1061 ≤ scale + 16 * 2 ^ es
  pub less : M + N < 2 ^ (16 * 2 ^ es + 1076)

fifteen_less : (c : ℕ) → fifteen c < 2 ^ 15
fifteen_less c = omega (arith, mod-lt c (pow_pos 52))

code_units_less : (es c : ℕ) → IsCode es c → units_of c < 2 ^ (16 * 2 ^ es + 1075)
code_units_less es c is =
    let scale : 53 + scale_in 52 c ≤ 16 * 2 ^ es + 1075 = omega (arith, is.less) in
    let few : digits_in 52 c < 2 ^ 53 = omega arith in
    lt_of_lt_of_le (shl_lt 53 (scale_in 52 c) few) (pow_mono scale)

-- twenty-six places put no digit of the one beyond those of the other
together : (g h k : ℕ) → g < 2 ^ 15 → h < 2 ^ 15 → k ≤ 26 → g * 2 ^ k + h < 2 ^ 41
together g h k few others near =
    let digits : g ≤ 2 ^ 15 - 1 = omega arith in
    let places : 2 ^ k ≤ 2 ^ 26 = pow_mono near in
    omega (arith, mul-le-mul_right (2 ^ k) digits, places)

turned : {es M N : ℕ} → Near es M N → Near es N M
turned n =
    record {
      scale = n.scale;
      first = n.second;
      second = n.first;
      says_first = n.says_second;
      says_second = n.says_first;
      few = omega (arith, n.few);
      least = n.least;
      less = omega (arith, n.less);
    }

module _ (es x y : ℕ) (is_x : IsCode es x) (is_y : IsCode es y) where
  near_below : scale_in 52 y ≤ scale_in 52 x → x ≤ y + 26 * 2 ^ 52 → Near es (units_of x) (units_of y)
  near_below below under =
      let s = scale_in 52 y in
      let k = scale_in 52 x - scale_in 52 y in
      let places : 38 + scale_in 52 x ≡ k + (38 + s) = omega arith in
      let one_more : 16 * 2 ^ es + 1076 ≡ 16 * 2 ^ es + 1075 + 1 = omega arith in
      record {
        scale = 38 + s;
        first = fifteen x * 2 ^ k;
        second = fifteen y;
        says_first = units_by_fifteen x is_x.few ∙ rw (places, pow-add 2 k (38 + s)) (omega arith);
        says_second = units_by_fifteen y is_y.few;
        few = together (fifteen x) (fifteen y) k (fifteen_less x) (fifteen_less y) (omega arith);
        least = omega (arith, is_y.at_least);
        less = rw (one_more, pow-add 2 (16 * 2 ^ es + 1075) 1) (omega (arith, code_units_less es x is_x, code_units_less es y is_y));
      }

near : (es x y : ℕ) → IsCode es x → IsCode es y → x ≤ y + 26 * 2 ^ 52 → y ≤ x + 26 * 2 ^ 52 → Near es (units_of x) (units_of y)
near es x y is_x is_y under over = elim (dec_le (scale_in 52 y) (scale_in 52 x)) [
  | yes h ↦ near_below es x y is_x is_y h under
  | no h ↦ turned (near_below es y x is_y is_x (omega arith) over)
]

-- ---- a double that is a sum: a sign and a size of no more than 41 digits
pub record Sized (es : ℕ) (r : Float) (negative : Bool) (size : ℕ) : Type 0 where
  pub value : HasValue r negative size (2 ^ 1075)
  pub digits : ℕ
  pub scale : ℕ
  pub number : size ≡ digits * 2 ^ scale
  pub few : digits < 2 ^ 41
  pub least : 1061 ≤ scale + 16 * 2 ^ es
  pub less : size < 2 ^ (16 * 2 ^ es + 1076)

multiples : (M N a b p : ℕ) → M ≡ a * p → N ≡ b * p → M - N ≡ (a - b) * p
multiples M N a b p e f = rw (e, f) (sym (mul_comm (a - b) p ∙ mul-sub p a b ∙ omega arith))

pub sign_held : (s : Bool) → bool_byte s * 2 ^ 63 ≤ 2 ^ 63
sign_held true = omega arith
sign_held false = omega arith

first_bit : (s : Bool) (n : ℕ) → n < 2 ^ 63 → leb (2 ^ 63) (bool_byte s * 2 ^ 63 + n) ≡ s
first_bit true n h = le-leb (2 ^ 63) (bool_byte true * 2 ^ 63 + n) (omega arith)
first_bit false n h = lt-leb (2 ^ 63) (bool_byte false * 2 ^ 63 + n) (omega arith)

module _ (es : ℕ) (small : es ≤ 2) where
  held : {n : ℕ} → n < 2 ^ (16 * 2 ^ es + 1076) → n < 2 ^ 2099
  held less = let most : 16 * 2 ^ es + 1076 ≤ 2099 = omega (arith, pow_mono small) in lt_of_lt_of_le less (pow_mono most)

  -- so much is rounded to itself
  rounded_sized : (r : Float) (negative : Bool) (size digits scale : ℕ) → r ≡ round binary64 negative size (2 ^ 1075)
      → size ≡ digits * 2 ^ scale → digits < 2 ^ 41 → 1061 ≤ scale + 16 * 2 ^ es → size < 2 ^ (16 * 2 ^ es + 1076) → Sized es r negative size
  rounded_sized r negative size digits scale is number few least less =
      record {
        value = rw is (rounded negative size digits scale number (omega (arith, pow_mono small)) (omega arith) (held less));
        digits = digits;
        scale = scale;
        number = number;
        few = few;
        least = least;
        less = less;
      }

  module _ (M N : ℕ) (n : Near es M N) (s : Bool) (v w : Float) (has_x : HasValue v s M (2 ^ 1075)) where
    alike_sized : HasValue w s N (2 ^ 1075) → Sized es (add binary64 v w) s (M + N)
    alike_sized has_y =
        rounded_sized (add binary64 v w) s (M + N) (n.first + n.second) n.scale (add_alike binary64 s v w M N (2 ^ 1075) (pow_pos 1075) has_x has_y)
        (omega (arith, n.says_first, n.says_second)) n.few n.least n.less

    module _ (has_y : HasValue w (not s) N (2 ^ 1075)) where
      more_sized : N < M → Sized es (add binary64 v w) s (M - N)
      more_sized h =
          rounded_sized (add binary64 v w) s (M - N) (n.first - n.second) n.scale (add_more binary64 s v w M N (2 ^ 1075) (pow_pos 1075) has_x has_y h)
          (multiples M N n.first n.second (2 ^ n.scale) n.says_first n.says_second) (omega (arith, n.few)) n.least (omega (arith, n.less))

      less_sized : M < N → Sized es (add binary64 v w) (not s) (N - M)
      less_sized h =
          rounded_sized (add binary64 v w) (not s) (N - M) (n.second - n.first) n.scale (add_less binary64 s v w M N (2 ^ 1075) (pow_pos 1075) has_x has_y h)
          (multiples N M n.second n.first (2 ^ n.scale) n.says_second n.says_first) (omega (arith, n.few)) n.least (omega (arith, n.less))

      none_sized : M ≡ N → Sized es (add binary64 v w) false 0
      none_sized h =
          rounded_sized (add binary64 v w) false 0 0 n.scale (add_none binary64 s v w M N (2 ^ 1075) (pow_pos 1075) has_x has_y h)
          (omega arith) (omega arith) n.least (pow_pos (16 * 2 ^ es + 1076))

  -- ---- its bits
  module _ {r : Float} {negative : Bool} {size : ℕ} (z : Sized es r negative size) where
    module _ (some : 0 < size) where
      sized_most : 2 ^ z.scale ≤ size
      sized_most =
          let digits : 1 ≤ z.digits = first_pos z.digits (2 ^ z.scale) (rw (sym z.number) some) in
          omega (arith, z.number, mul-le-mul_right (2 ^ z.scale) digits)

      sized_bits : Bits r negative size
      sized_bits =
          let least : 53 ≤ z.scale = omega (arith, z.least, pow_mono small) in
          value_bits r negative size z.digits z.scale z.value z.number z.few (le_trans (pow_mono least) sized_most) (held z.less)

      abbrev code : ℕ
      code = sized_bits.code

      sized_codes : {f : Fraction} → f ≈ over_power (pos size) 1075 → Codes es f code
      sized_codes =
          let low : 1075 - 48 * 2 ^ es ≤ z.scale = omega (arith, z.least, pow_pos es) in
          let high : 16 * 2 ^ es + 1076 ≤ 1075 + 32 * 2 ^ es = omega (arith, pow_pos es) in
          bits_codes sized_bits (le_trans (pow_mono low) sized_most) (lt_of_lt_of_le z.less (pow_mono high))

      size_bits : to_bits binary64 r % 2 ^ 63 ≡ code
      size_bits = omega (arith, sized_bits.bits, sized_bits.less)

      sign_bit : leb (2 ^ 63) (to_bits binary64 r) ≡ negative
      sign_bit = rw sized_bits.bits (first_bit negative code (omega (arith, sized_bits.less)))

    size_none : size ≡ 0 → to_bits binary64 r % 2 ^ 63 ≡ 0
    size_none none =
        let nothing : 0 * 2 ^ 1075 ≡ size * 2 ^ 1074 = rw none (zero-mul (2 ^ 1075) ∙ sym (zero-mul (2 ^ 1074))) in
        rw (bits_of r negative 0 (same_value r negative size (2 ^ 1075) 0 (2 ^ 1074) (pow_pos 1075) nothing z.value), none_written) (omega arith)

    nothing_left : to_bits binary64 r % 2 ^ 63 ≡ 0 → size ≡ 0
    nothing_left h = elim (eq-zero-or-pos size) [
      | inl none ↦ none
      | inr some ↦ let no : ⊥ = omega (arith, h, size_bits some, (sized_bits some).at_least) in absurd no
    ]

    something_left : (to_bits binary64 r % 2 ^ 63 ≡ 0 → ⊥) → 0 < size
    something_left h = pos_of_ne-zero (λ none. h (size_none none))

  -- ---- a sum with a sign
  pub record SumIs (r : Float) (z : Fraction) : Type 0 where
    pub negative : Bool
    pub size : ℕ
    pub sized : Sized es r negative size
    pub says : with_signᶠ negative z ≈ over_power (pos size) 1075

  module _ (M N : ℕ) (n : Near es M N) (v w : Float) where
    abbrev summed : Bool → Bool → Fraction
    summed s t = with_signᶠ s (over_power (pos M) 1075) +ᶠ with_signᶠ t (over_power (pos N) 1075)

    alike_sum : (s : Bool) → HasValue v s M (2 ^ 1075) → HasValue w s N (2 ^ 1075) → SumIs (add binary64 v w) (summed s s)
    alike_sum s has_x has_y = record { negative = s; size = M + N; sized = alike_sized M N n s v w has_x has_y; says = alike_over 1075 M N s }

    apart_sum : (s : Bool) → HasValue v s M (2 ^ 1075) → HasValue w (not s) N (2 ^ 1075) → SumIs (add binary64 v w) (summed s (not s))
    apart_sum s has_x has_y = elim (dec_le M N) [
      | yes h ↦
          elim (dec_le N M) [
            | yes k ↦
                let same : M ≡ N = le_antisymm h k in
                record { negative = false; size = 0; sized = none_sized M N n s v w has_x has_y same; says = none_over 1075 M N s same ⨾ ≈_sym (sign_none false 1075) }
            | no k ↦ record { negative = not s; size = N - M; sized = less_sized M N n s v w has_x has_y (omega arith); says = less_over 1075 M N s h }
          ]
      | no h ↦ record { negative = s; size = M - N; sized = more_sized M N n s v w has_x has_y (omega arith); says = more_over 1075 M N s (omega arith) }
    ]

    sum_is : (s t : Bool) → HasValue v s M (2 ^ 1075) → HasValue w t N (2 ^ 1075) → SumIs (add binary64 v w) (summed s t)
    sum_is true true = alike_sum true
    sum_is true false = apart_sum true
    sum_is false true = apart_sum false
    sum_is false false = alike_sum false

  module _ {r : Float} {z : Fraction} (i : SumIs r z) where
    sum_number : T (not (is_nan r))
    sum_number = no_nan r i.negative i.size (2 ^ 1075) i.sized.value

    sum_none : to_bits binary64 r % 2 ^ 63 ≡ 0 → IsSignedSum es z None
    sum_none h =
        ≈_sym (sign_twice i.negative z)
        ⨾ sign_cong i.negative (rw (nothing_left i.sized h) at i.says)
        ⨾ sign_none i.negative 1075

    sum_some : (to_bits binary64 r % 2 ^ 63 ≡ 0 → ⊥) → IsSignedSum es z (signed (leb (2 ^ 63) (to_bits binary64 r)) (to_bits binary64 r % 2 ^ 63))
    sum_some some =
        let left = something_left i.sized some in
        rw (size_bits i.sized left, sign_bit i.sized left) (sized_codes i.sized left i.says)

-- ---- a double less another
less_is : (f : Format) (x y : Float) → sub f x y ≡ add f x (neg y)
unfolding sub
less_is f x y = refl

negated : (x : Float) (a c : ℕ) → HasValue x false a c → HasValue (neg x) true a c
unfolding neg
negated nan a c h = h
negated (inf t) a c h = h
negated (fin t m e) a c h = (ap not h.0, h.1)

-- ---- codes that are brought near to each other
-- as `raised` asks
pub both_held : {es x y : ℕ} → es ≤ 2 → IsCode es x → IsCode es y → (2 ^ 52 ≤ x) × (x < 2047 * 2 ^ 52) × (27 * 2 ^ 52 ≤ y) × (y < 2047 * 2 ^ 52)
both_held small is_x is_y =
    let (low, high) = code_held small is_x in
    let (least, most) = code_held small is_y in
    (omega arith, high, least, most)

module _ {es x y a : ℕ} (small : es ≤ 2) (is_x : IsCode es x) (is_y : IsCode es y) (is : a ≡ max x (y - 26 * 2 ^ 52)) where
  brought_code : IsCode es a
  brought_code = rw is (raised_code is_x is_y)

  brought_least : 2 ^ 52 ≤ a
  brought_least = omega (arith, (code_held small brought_code).0)

  pub brought_less : a < 2047 * 2 ^ 52
  brought_less = (code_held small brought_code).1

  pub brought_number : T (not (nan_bits binary64 a))
  brought_number = plain_number a brought_least brought_less

  pub brought_signed : (s : Bool) → T (not (nan_bits binary64 (bool_byte s * 2 ^ 63 + a)))
  brought_signed s = code_number s a brought_least brought_less

module _ {es x y a b : ℕ} (small : es ≤ 2) (is_x : IsCode es x) (is_y : IsCode es y) (is_a : a ≡ max x (y - 26 * 2 ^ 52)) (is_b : b ≡ max y (x - 26 * 2 ^ 52)) where
  both_near : Near es (units_of a) (units_of b)
  both_near = near es a b (brought_code small is_x is_y is_a) (brought_code small is_y is_x is_b) (rw (is_a, is_b) (raised_near x y)) (rw (is_a, is_b) (raised_near y x))

  -- without signs
  plain_left : HasValue (of_bits binary64 a) false (units_of a) (2 ^ 1075)
  plain_left = plain_value a (brought_least small is_x is_y is_a) (brought_less small is_x is_y is_a)

  plain_right : HasValue (of_bits binary64 b) false (units_of b) (2 ^ 1075)
  plain_right = plain_value b (brought_least small is_y is_x is_b) (brought_less small is_y is_x is_b)

  negated_right : HasValue (neg (of_bits binary64 b)) true (units_of b) (2 ^ 1075)
  negated_right = negated (of_bits binary64 b) (units_of b) (2 ^ 1075) plain_right

  abbrev total : Float
  total = add binary64 (of_bits binary64 a) (of_bits binary64 b)

  total_sized : Sized es total false (units_of a + units_of b)
  total_sized =
      alike_sized es small (units_of a) (units_of b) both_near false (of_bits binary64 a) (of_bits binary64 b)
      plain_left plain_right

  pub total_number : T (not (is_nan total))
  total_number = no_nan total false (units_of a + units_of b) (2 ^ 1075) total_sized.value

  pub total_codes : Codes es (code_value 52 x +ᶠ code_value 52 y) (to_bits binary64 total)
  total_codes =
      let some : 0 < units_of a + units_of b = omega (arith, mul-pos {m = digits_in 52 a} {n = 2 ^ scale_in 52 a} (omega arith) (pow_pos (scale_in 52 a))) in
      raised_total is_x is_y
      (rw (sym is_a, sym is_b, (sized_bits es small total_sized some).bits, zero-add (code es small total_sized some))
      (sized_codes es small total_sized some (over_both 1075 (units_of a) (units_of b))))

  -- with signs
  module _ (s t : Bool) where
    abbrev both : Float
    both = add binary64 (of_bits binary64 (bool_byte s * 2 ^ 63 + a)) (of_bits binary64 (bool_byte t * 2 ^ 63 + b))

    signed_is : SumIs es small both (with_signᶠ s (code_value 52 a) +ᶠ with_signᶠ t (code_value 52 b))
    signed_is =
        sum_is es small (units_of a) (units_of b) both_near (of_bits binary64 (bool_byte s * 2 ^ 63 + a)) (of_bits binary64 (bool_byte t * 2 ^ 63 + b)) s t
        (code_value_says s a (brought_least small is_x is_y is_a) (brought_less small is_x is_y is_a)) (code_value_says t b (brought_least small is_y is_x is_b) (brought_less small is_y is_x is_b))

    pub signed_number : T (not (is_nan both))
    signed_number = sum_number es small signed_is

    pub signed_none : to_bits binary64 both % 2 ^ 63 ≡ 0 → IsSignedSum es (with_signᶠ s (code_value 52 x) +ᶠ with_signᶠ t (code_value 52 y)) None
    signed_none none = raised_signed s t None is_x is_y (rw (sym is_a, sym is_b) (sum_none es small signed_is none))

    abbrev told : Option (Signed ℕ)
    told = signed (leb (2 ^ 63) (to_bits binary64 both)) (to_bits binary64 both % 2 ^ 63)

    pub signed_some : (to_bits binary64 both % 2 ^ 63 ≡ 0 → ⊥) → IsSignedSum es (with_signᶠ s (code_value 52 x) +ᶠ with_signᶠ t (code_value 52 y)) told
    signed_some some = raised_signed s t told is_x is_y (rw (sym is_a, sym is_b) (sum_some es small signed_is some))

  -- of one less another, which has the sign of the greater
  abbrev apart : Float
  apart = sub binary64 (of_bits binary64 a) (of_bits binary64 b)

  abbrev left : ℕ
  left = to_bits binary64 apart % 2 ^ 63

  abbrev rest : Fraction
  rest = with_signᶠ false (code_value 52 x) +ᶠ with_signᶠ true (code_value 52 y)

  -- the sum with the negated one
  module _ {negative : Bool} {size : ℕ} (z : Sized es (add binary64 (of_bits binary64 a) (neg (of_bits binary64 b))) negative size) where
    turned_sized : Sized es apart negative size
    turned_sized = rw (less_is binary64 (of_bits binary64 a) (of_bits binary64 b)) z

    told_by : 0 < size → with_signᶠ negative (with_signᶠ false (code_value 52 a) +ᶠ with_signᶠ true (code_value 52 b)) ≈ over_power (pos size) 1075 → IsSignedSum es rest (signed negative left)
    told_by some says =
        raised_signed false true (signed negative left) is_x is_y
        (rw (sym is_a, sym is_b, size_bits es small turned_sized some) (sized_codes es small turned_sized some says))

  above_zero : y < x → IsSignedSum es rest (signed false left)
  above_zero less =
      let order : units_of b < units_of a = units_less b a (omega (arith, is_a, is_b)) in
      told_by (more_sized es small (units_of a) (units_of b) both_near false (of_bits binary64 a) (neg (of_bits binary64 b)) plain_left negated_right order)
      (omega arith) (more_over 1075 (units_of a) (units_of b) false (omega arith))

  below_zero : x < y → IsSignedSum es rest (signed true left)
  below_zero less =
      let order : units_of a < units_of b = units_less a b (omega (arith, is_a, is_b)) in
      told_by (less_sized es small (units_of a) (units_of b) both_near false (of_bits binary64 a) (neg (of_bits binary64 b)) plain_left negated_right order)
      (omega arith) (less_over 1075 (units_of a) (units_of b) false (omega arith))

  pub apart_number : T (not (is_nan apart))
  apart_number =
      rw (less_is binary64 (of_bits binary64 a) (of_bits binary64 b))
      (sum_number es small (sum_is es small (units_of a) (units_of b) both_near (of_bits binary64 a) (neg (of_bits binary64 b)) false true plain_left negated_right))

  pub apart_some : x ≢ y → IsSignedSum es rest (signed (ltb x y) left)
  apart_some differ = elim (dec_lt x y) [
    | yes less ↦ rw (lt-ltb x y less) (below_zero less)
    | no not_less ↦ rw (le-ltb x y (omega arith)) (above_zero (omega (arith, differ)))
  ]
