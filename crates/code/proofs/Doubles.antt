-- Doubles by their values: a sum that needs no more than 53 digits is exact, a whole number is too, and the bits of a double are its scale and its digits.
use Rattle.std.proofs.Common.{◌≡◌, ℕ, suc, ◌+◌, ◌-◌, ◌*◌, ◌/◌, ◌^◌, ◌<◌, ◌≤◌, Bool, true, false, cond, not, T, pos, sym, refl, ap, ◌∙◌, le_refl, lt_of_lt_of_le, lt_of_le_of_lt, le_of_lt, mul-le-mul_right, mul_comm, lt_of_mul-lt-mul_right, mul-lt-mul_of_pos_right, mul-pos, zero-add, le_of_mul-le-mul_right, mul-div_cancel, arith, pow_pos, pow_mono, pow-add, shl_lt, le-ltb, lt-ltb}
use native.Mathlib.Nat.{sub_self, mul-sub, eq_of_mul-eq-mul_right, pow-succ'}
use lib.Ieee.{Float, nan, inf, fin, Format, binary64, up, down, size, round, sum, add, is_nan, to_bits, of_int}
use lib.Ieee.Digits.{size-lt, size_reaches, size-le}
use lib.Ieee.Exact.{HasValue, round_exact}
use lib.Ieee.Fits.{down_pos}
use lib.Ieee.Scale.{round_same}
use mir.Val.{bool_byte}
use Rattle.exact.proofs.Powers.{pow_split, pow_lt_cancel, floor_of_more}
use Rattle.posit.specs.Parts.{HighestBit}
use Rattle.posit.proofs.SetBits.{highest_below}

-- ---- the value of a float
-- by a fraction of the same size
pub same_value : (x : Float) (s : Bool) (a c b d : ℕ) → 0 < c → b * c ≡ a * d → HasValue x s a c → HasValue x s b d
same_value nan s a c b d p e h = h
same_value (inf t) s a c b d p e h = h
same_value (fin t m k) s a c b d p e h = (
  h.0,
  eq_of_mul-eq-mul_right c p (m * up k * d) (b * down k) (omega (arith, ap (λ (x : ℕ). x * d) h.1, ap (λ (x : ℕ). x * down k) e)),
)

pub no_nan : (x : Float) (s : Bool) (a c : ℕ) → HasValue x s a c → T (not (is_nan x))
unfolding is_nan
no_nan nan s a c h = h
no_nan (inf t) s a c h = tt
no_nan (fin t m e) s a c h = tt

-- ---- the sum of two, by fractions of their size
pub record Crossed (f : Format) (r : Float) (s t : Bool) (a b c : ℕ) : Type 0 where
  pub left : ℕ
  pub right : ℕ
  pub whole : ℕ
  pub is : r ≡ sum f s left t right whole
  pub some : 0 < whole
  pub left_is : left * c ≡ a * whole
  pub right_is : right * c ≡ b * whole

crossed : (f : Format) (s t : Bool) (x y : Float) (a b c : ℕ) → HasValue x s a c → HasValue y t b c → Crossed f (add f x y) s t a b c
unfolding add
crossed f s t nan y a b c h k = absurd h
crossed f s t (inf u) y a b c h k = absurd h
crossed f s t (fin u m e) nan a b c h k = absurd k
crossed f s t (fin u m e) (inf v) a b c h k = absurd k
crossed f s t (fin u m e) (fin v n d) a b c h k =
    record {
      left = m * up e * down d;
      right = n * up d * down e;
      whole = down e * down d;
      is = rw (h.0, k.0);
      some = mul-pos (down_pos e) (down_pos d);
      left_is = omega (arith, ap (λ (x : ℕ). x * down d) h.1);
      right_is = omega (arith, ap (λ (x : ℕ). x * down e) k.1);
    }

-- with one sign the sizes add
sum_alike : (f : Format) (s : Bool) (A B C : ℕ) → sum f s A s B C ≡ round f s (A + B) C
unfolding sum
sum_alike f true A B C = refl
sum_alike f false A B C = refl

-- with two the lesser is taken from the greater
sum_more : (f : Format) (s : Bool) (A B C : ℕ) → B < A → sum f s A (not s) B C ≡ round f s (A - B) C
unfolding sum
sum_more f true A B C h = rw (le-ltb A B (le_of_lt h), lt-ltb B A h)
sum_more f false A B C h = rw (le-ltb A B (le_of_lt h))

sum_less : (f : Format) (s : Bool) (A B C : ℕ) → A < B → sum f s A (not s) B C ≡ round f (not s) (B - A) C
unfolding sum
sum_less f true A B C h = rw (lt-ltb A B h)
sum_less f false A B C h = rw (lt-ltb A B h)

-- and nothing has the sign of a number above 0
sum_none : (f : Format) (s : Bool) (A C : ℕ) → sum f s A (not s) A C ≡ round f false 0 C
unfolding sum
sum_none f true A C = rw (le-ltb A A (le_refl A), sub_self A)
sum_none f false A C = rw (le-ltb A A (le_refl A), sub_self A)

cross_sum : (A B C a b c : ℕ) → A * c ≡ a * C → B * c ≡ b * C → (A + B) * c ≡ (a + b) * C
cross_sum A B C a b c p q = omega (arith, p, q)

cross_difference : (A B C a b c : ℕ) → A * c ≡ a * C → B * c ≡ b * C → (A - B) * c ≡ (a - b) * C
cross_difference A B C a b c p q = mul_comm (A - B) c ∙ mul-sub c A B ∙ omega (arith, p, q) ∙ sym (mul-sub C a b) ∙ mul_comm C (a - b)

cross_less : (A B C a b c : ℕ) → 0 < C → A * c ≡ a * C → B * c ≡ b * C → a < b → A < B
cross_less A B C a b c some p q h = lt_of_mul-lt-mul_right c (rw (p, q) (mul-lt-mul_of_pos_right h some))

module _ (f : Format) (s : Bool) (x y : Float) (a b c : ℕ) (some : 0 < c) (h : HasValue x s a c) where
  pub add_alike : HasValue y s b c → add f x y ≡ round f s (a + b) c
  add_alike k =
      let z = crossed f s s x y a b c h k in
      z.is
      ∙ sum_alike f s z.left z.right z.whole
      ∙ round_same f s (z.left + z.right) z.whole (a + b) c z.some some (cross_sum z.left z.right z.whole a b c z.left_is z.right_is)

  module _ (k : HasValue y (not s) b c) where
    pub add_more : b < a → add f x y ≡ round f s (a - b) c
    add_more more =
        let z = crossed f s (not s) x y a b c h k in
        z.is
        ∙ sum_more f s z.left z.right z.whole (cross_less z.right z.left z.whole b a c z.some z.right_is z.left_is more)
        ∙ round_same f s (z.left - z.right) z.whole (a - b) c z.some some (cross_difference z.left z.right z.whole a b c z.left_is z.right_is)

    pub add_less : a < b → add f x y ≡ round f (not s) (b - a) c
    add_less less =
        let z = crossed f s (not s) x y a b c h k in
        z.is
        ∙ sum_less f s z.left z.right z.whole (cross_less z.left z.right z.whole a b c z.some z.left_is z.right_is less)
        ∙ round_same f (not s) (z.right - z.left) z.whole (b - a) c z.some some (cross_difference z.right z.left z.whole b a c z.right_is z.left_is)

    pub add_none : a ≡ b → add f x y ≡ round f false 0 c
    add_none same =
        let z = crossed f s (not s) x y a b c h k in
        let level : z.right ≡ z.left = eq_of_mul-eq-mul_right c some z.right z.left (z.right_is ∙ ap (λ (n : ℕ). n * z.whole) (sym same) ∙ sym z.left_is) in
        z.is
        ∙ ap (λ (n : ℕ). sum f s z.left (not s) n z.whole) level
        ∙ sum_none f s z.left z.whole
        ∙ round_same f false 0 z.whole 0 c z.some some (omega arith)

-- ---- a number of no more than 53 digits is not rounded
one_more : {P : ℕ} (D E N Q : ℕ) → P ≡ D * E → N * D ≡ Q → N * P ≡ Q * E
one_more D E N Q e h = omega (arith, ap (λ (x : ℕ). N * x) e, ap (λ (x : ℕ). x * E) h)

-- N over 2^B, in units of the smallest double
module _ (s : Bool) (N B k : ℕ) (all : k + B ≡ 1074) where
  unit_split : 2 ^ 1074 ≡ 2 ^ k * 2 ^ B
  unit_split = ap (λ (i : ℕ). 2 ^ i) (sym all) ∙ pow-add 2 k B

  pub in_smallest : (x : Float) → HasValue x s N (2 ^ B) → HasValue x s (N * 2 ^ k) (2 ^ 1074)
  in_smallest x = same_value x s N (2 ^ B) (N * 2 ^ k) (2 ^ 1074) (pow_pos B) (sym (one_more (2 ^ k) (2 ^ B) N (N * 2 ^ k) unit_split refl))

  module _ (q m : ℕ) (is : N ≡ q * 2 ^ m) (few : q < 2 ^ 53) where
    pub moved_up : N * 2 ^ k ≡ q * 2 ^ (m + k)
    moved_up = rw (pow-add 2 m k) (omega (arith, ap (λ (x : ℕ). x * 2 ^ k) is))

    pub exactly_rounded : N * 2 ^ k < 2 ^ 2098 → HasValue (round binary64 s N (2 ^ B)) s N (2 ^ B)
    exactly_rounded less =
        round_exact binary64 s N (2 ^ B) q (m + k) (pow_pos B) few (rw moved_up at less) (one_more (2 ^ k) (2 ^ B) N (q * 2 ^ (m + k)) unit_split moved_up)

-- ---- what is written for a float
-- n in units of the smallest double: the exponent says how many digits were cut off, and the first of the 53 that are left adds one to it
abbrev pub word_of : ℕ → ℕ
word_of n = (size n - 53) * 2 ^ 52 + n / 2 ^ (size n - 53)

pub none_written : word_of 0 ≡ 0
unfolding size
none_written = refl

grouped : (s : Bool) (a b : ℕ) → cond s (2 ^ 63) 0 + a + b ≡ bool_byte s * 2 ^ 63 + (a + b)
grouped true a b = omega arith
grouped false a b = omega arith

pub bits_of : (x : Float) (s : Bool) (n : ℕ) → HasValue x s n (2 ^ 1074) → to_bits binary64 x ≡ bool_byte s * 2 ^ 63 + word_of n
unfolding to_bits
bits_of nan s n h = absurd h
bits_of (inf t) s n h = absurd h
bits_of (fin t m e) s n h =
    let is : m * up e * 2 ^ 1074 / down e ≡ n = ap (λ (x : ℕ). x / down e) h.1 ∙ mul-div_cancel n (down_pos e) in
    rw (is, h.0) (grouped s ((size n - 53) * 2 ^ 52) (n / 2 ^ (size n - 53)))

-- n is digits · 2^shift, with 53 digits, and these two are the word
pub record Written (n word : ℕ) : Type 0 where
  pub digits : ℕ
  pub shift : ℕ
  pub says : word ≡ shift * 2 ^ 52 + digits
  pub number : n ≡ digits * 2 ^ shift
  pub at_least : 2 ^ 52 ≤ digits
  pub less : digits < 2 ^ 53

module _ (n q j : ℕ) (is : n ≡ q * 2 ^ j) (few : q < 2 ^ 53) (many : 2 ^ 52 ≤ n) where
  abbrev cut : ℕ
  cut = size n - 53

  full : size n ≡ 53 + cut
  full = omega (arith, pow_lt_cancel 52 (size n) (lt_of_le_of_lt many (size-lt n)))

  cut_most : cut ≤ j
  cut_most = omega (arith, size-le n (53 + j) (rw is (shl_lt 53 j few)))

  abbrev kept : ℕ
  kept = q * 2 ^ (j - cut)

  kept_is : n ≡ kept * 2 ^ cut
  kept_is = omega (arith, is, ap (λ (x : ℕ). q * x) (pow_split cut_most))

  pub whole_written : Written n (word_of n)
  whole_written =
      record {
        digits = kept;
        shift = cut;
        says = ap (λ (x : ℕ). cut * 2 ^ 52 + x) (ap (λ (x : ℕ). x / 2 ^ cut) kept_is ∙ mul-div_cancel kept (pow_pos cut));
        number = kept_is;
        at_least = le_of_mul-le-mul_right {k = 2 ^ cut} (rw (sym kept_is, sym (pow-add 2 52 cut)) (size_reaches n (52 + cut) (omega (arith, full)))) (pow_pos cut);
        less = lt_of_mul-lt-mul_right (2 ^ cut) (rw (sym kept_is, sym (pow-add 2 53 cut), sym full) (size-lt n));
      }

-- ---- a whole number as a double
-- its highest bit is the exponent, and the digits stand behind it
module _ {z h : ℕ} (c : HighestBit z h) (few : h ≤ 52) where
  whole_size : size (z * 2 ^ 1074) ≡ h + 1075
  whole_size =
      let reaches : 2 ^ (h + 1074) < 2 ^ size (z * 2 ^ 1074) = rw (pow-add 2 h 1074) (lt_of_le_of_lt (mul-le-mul_right (2 ^ 1074) c.at_least) (size-lt (z * 2 ^ 1074))) in
      let most = size-le (z * 2 ^ 1074) (suc h + 1074) (shl_lt (suc h) 1074 (rw (pow-succ' 2 h) c.less)) in
      omega (arith, most, pow_lt_cancel (h + 1074) (size (z * 2 ^ 1074)) reaches)

  whole_word : word_of (z * 2 ^ 1074) ≡ (h + 1022) * 2 ^ 52 + z * 2 ^ (52 - h)
  whole_word =
      let cut : size (z * 2 ^ 1074) - 53 ≡ h + 1022 = omega (arith, whole_size) in
      let places : 52 - h + (h + 1022) ≡ 1074 = omega arith in
      rw cut (ap (λ (x : ℕ). (h + 1022) * 2 ^ 52 + x) (rw places at (floor_of_more z (52 - h) (h + 1022))))

module _ (s : Bool) (z : ℕ) (few : z < 2 ^ 53) where
  pub whole_value : HasValue (round binary64 s z 1) s z 1
  whole_value =
      let most : 53 + 1074 ≤ 2098 = omega arith in
      exactly_rounded s z 0 1074 refl z 0 (omega arith) few (lt_of_lt_of_le (shl_lt 53 1074 few) (pow_mono most))

  pub whole_is_written : to_bits binary64 (round binary64 s z 1) ≡ bool_byte s * 2 ^ 63 + word_of (z * 2 ^ 1074)
  whole_is_written = bits_of (round binary64 s z 1) s (z * 2 ^ 1074) (in_smallest s z 0 1074 refl (round binary64 s z 1) whole_value)

module _ (z : ℕ) (few : z < 2 ^ 53) where
  pub whole_number : T (not (is_nan (of_int binary64 (pos z))))
  unfolding of_int
  whole_number = no_nan (round binary64 false z 1) false z 1 (whole_value false z few)

  pub whole_bits : {h : ℕ} → HighestBit z h → to_bits binary64 (of_int binary64 (pos z)) ≡ (h + 1022) * 2 ^ 52 + z * 2 ^ (52 - h)
  unfolding of_int
  whole_bits {h} c = whole_is_written false z few ∙ zero-add (word_of (z * 2 ^ 1074)) ∙ whole_word c (omega (arith, highest_below 53 c few))
