-- The code of a posit is its value: the double made of twice the pattern, or of twice how far it is from NaR's, has the closing bit of the run as its exponent
-- and the tail behind it; counted from elsewhere, and with a run of ones from the other end, these are regime and tail as one number.
use Rattle.std.proofs.Common.{◌≡◌, ℕ, zero, suc, ◌+◌, ◌-◌, ◌*◌, ◌%◌, ◌^◌, ◌<◌, ◌≤◌, true, false, not, T, ℤ, pos, negsuc, ◌-ℤ◌, sym, ap, ◌∙◌, true≢false, zero-le, mul-le-mul_right, mul_assoc, mul_comm, suc-add, mul-lt-mul_of_pos_right, zero-add, zero-mul, arith, pow_pos, pow_mono, pow-add, shl_lt, to_z-of_z, w32, SFits, to_z, of_z, le-ltb}
use mathlib.Core.Bool.{false≢true}
use native.Mathlib.Nat.{pow-succ'}
use native.Mathlib.Decide.{ℕ_discrete, dec_lt}
use lib.Signed.{lt_z}
use lib.Bits.{bit_xor, xor_lt}
use lib.Ieee.{binary64, is_nan, of_int, to_bits, round}
use mir.Facts.{to_z_pos}
use Rattle.exact.proofs.Linear.{spread, parts}
use Rattle.exact.proofs.Powers.{pow_split}
use Rattle.exact.proofs.OverPower.{over_power_pos_≈}
use Rattle.posit.specs.Format.{Format, nar, m}
use Rattle.posit.specs.Value.{multiple}
use Rattle.posit.specs.Parts.{HighestBit}
use Rattle.posit.proofs.Growth.{G, g_wider, g_doubles, g_at_zero}
use Rattle.posit.proofs.Shapes.{Shape, zeros, ones, all_ones, shape, zeros_value, ones_value, all_ones_value}
use Rattle.posit.proofs.Mirror.{units_below}
use Rattle.code.specs.Code.{scale_in, digits_in, IsCode, CodeOf}
use Rattle.code.proofs.Flip.{bit_turned}
use Rattle.code.proofs.Doubles.{word_of, no_nan, whole_value, whole_is_written, whole_number, whole_bits}

abbrev pub bits_of : ℤ → ℕ
bits_of z = to_bits binary64 (of_int binary64 z)

-- ---- a whole number below 0 as a double: the sign is added to the bits
below_number : (k : ℕ) → suc k < 2 ^ 53 → T (not (is_nan (of_int binary64 (negsuc k))))
unfolding of_int
below_number k few = no_nan (round binary64 true (suc k) 1) true (suc k) 1 (whole_value true (suc k) few)

below_bits : (k : ℕ) → suc k < 2 ^ 53 → bits_of (negsuc k) ≡ 2 ^ 63 + bits_of (pos (suc k))
unfolding of_int
below_bits k few =
    whole_is_written true (suc k) few
    ∙ ap (λ (x : ℕ). 2 ^ 63 + x) (sym (whole_is_written false (suc k) few ∙ zero-add (word_of (suc k * 2 ^ 1074))))

-- ---- twice a number has its highest bit one place further up
module _ {z h : ℕ} (c : HighestBit z h) (few : h ≤ 15) where
  twice_less : 2 * z < 2 ^ 17
  twice_less = omega (arith, c.less, pow_mono {i = h} {j = 15} few)

  twice_bits : bits_of (pos (2 * z)) ≡ (h + 1023) * 2 ^ 52 + z * 2 ^ (52 - h)
  twice_bits =
      let up : 2 ^ suc h ≡ 2 * 2 ^ h = pow-succ' 2 h in
      let places : 2 ^ (52 - h) ≡ 2 * 2 ^ (52 - suc h) = ap (λ (i : ℕ). 2 ^ i) {x = 52 - h} {y = suc (52 - suc h)} (omega arith) ∙ pow-succ' 2 (52 - suc h) in
      whole_bits (2 * z) (omega (arith, twice_less)) {h = suc h} (record { at_least = omega (arith, c.at_least); less = omega (arith, c.less) })
      ∙ omega (arith, ap (λ (x : ℕ). z * x) places)

-- ---- the bits by the tail t of w bits behind the closing bit
module _ {w t : ℕ} (tail : t < 2 ^ w) (few : w ≤ 14) where
  abbrev places : 2 ^ 52 ≡ 2 ^ (52 - w) * 2 ^ w
  places = pow_split {i = 52} {j = w} (omega arith)

  zeros_bits : bits_of (pos (2 * (2 ^ w + t))) ≡ (w + 1024) * 2 ^ 52 + t * 2 ^ (52 - w)
  zeros_bits = twice_bits {z = 2 ^ w + t} {h = w} (record { at_least = omega arith; less = omega arith }) (omega arith) ∙ omega (arith, places)

  -- with a tail of 0 the highest bit is one place further up, and all else is the same
  ones_bits : (z : ℕ) → z + t ≡ 2 * 2 ^ w → bits_of (pos (2 * z)) + t * 2 ^ (52 - w) ≡ (w + 1025) * 2 ^ 52
  ones_bits z e = elim (ℕ_discrete t 0) [
    | yes none ↦
        let at : 2 ^ suc w ≡ 2 * 2 ^ w = pow-succ' 2 w in
        let moved : z * 2 ^ (52 - suc w) ≡ 2 ^ 52 = ap (λ (k : ℕ). k * 2 ^ (52 - suc w)) {y = 2 ^ suc w} (omega arith) ∙ mul_comm (2 ^ suc w) (2 ^ (52 - suc w)) ∙ sym (pow_split {i = 52} {j = suc w} (omega arith)) in
        rw (none, zero-mul (2 ^ (52 - w)))
        (omega (arith, twice_bits {z = z} {h = suc w} (record { at_least = omega arith; less = omega (arith, pow_pos w) }) (omega arith), moved))
    | no some ↦
        let moved : z * 2 ^ (52 - w) + t * 2 ^ (52 - w) ≡ 2 * 2 ^ 52 = omega (arith, ap (λ (k : ℕ). k * 2 ^ (52 - w)) e, places) in
        omega (arith, twice_bits {z = z} {h = w} (record { at_least = omega arith; less = omega arith }) (omega arith), moved)
  ]

-- ---- regime and tail of a pattern: the tail t has w bits, and the regime is counted from the lowest of the format
pub record Reading (n es p : ℕ) : Type 0 where
  pub regime : ℕ
  pub w : ℕ
  pub t : ℕ
  pub few : w ≤ 14
  pub tail : t < 2 ^ w
  pub most : regime ≤ 2 * (n - 2)
  pub says : multiple (n - 1) es p * 2 ^ w ≡ 2 ^ (regime * 2 ^ es) * G w (t * 2 ^ es)

-- ---- c zero bits behind a tail
g_longer : (c w x : ℕ) → G (c + w) (x * 2 ^ c) ≡ 2 ^ c * G w x
g_longer zero w x = rw zero-add (ap (G w) {x = x * 2 ^ 0} {y = x} (omega arith) ∙ omega arith)
g_longer (suc c) w x =
    rw suc-add
    (ap (G (suc (c + w))) {y = 2 * (x * 2 ^ c)} (rw (pow-succ' 2 c) (omega arith)) ∙ g_wider (c + w) (x * 2 ^ c)
    ∙ rw (g_longer c w x, pow-succ' 2 c) (omega arith))

-- ---- what the code stands for
code_stands : (c : ℕ) → digits_in 52 c * 2 ^ scale_in 52 c ≡ G 52 c
unfolding G
code_stands c = mul_comm (digits_in 52 c) (2 ^ scale_in 52 c)

-- with the powers of two apart: A of the regime, B and C of where it is counted from, H and K of the places below and above the closing bit
cross : {P Q R : ℕ} (M D g A B C H K : ℕ) → M * H ≡ A * g → D ≡ A * B * (K * g) → P ≡ K * H → Q ≡ B * C → R ≡ P * Q → D * C ≡ M * R
cross M D g A B C H K e d p q r =
    rw (r, p, q) (omega (arith, ap (λ (k : ℕ). k * C) d, ap (λ (k : ℕ). B * K * C * k) e))

-- ---- what the stretched bits b are taken from, and what is taken from them, as the machine does it
abbrev above_one : ℕ → ℕ → ℕ → ℕ
above_one n es b = ((((1022 + n) * 2 ^ es + 1023) * 2 ^ 52 + 2 ^ 63 * 2 ^ es) % 2 ^ 64 + (2 ^ 64 - b % 2 ^ 64)) % 2 ^ 64

abbrev below_one : ℕ → ℕ → ℕ → ℕ
below_one n es b = (b % 2 ^ 64 + (2 ^ 64 - ((1022 + n) * 2 ^ es - 1023) * 2 ^ 52)) % 2 ^ 64

module _ {n es : ℕ} (f : Format n es) where
  pub stretched_least : 1023 ≤ (1022 + n) * 2 ^ es
  stretched_least = omega (arith, mul-le-mul_right {m = 1025} {n = 1022 + n} (2 ^ es) (omega (arith, f.wide_enough)), pow_pos es)

  pub stretched_most : (1022 + n) * 2 ^ es ≤ 4152
  stretched_most = omega (arith, mul-le-mul_right {m = 1022 + n} {n = 1038} (2 ^ es) (omega (arith, f.not_too_wide)), pow_mono {i = es} {j = 2} f.exponent_fits)

-- ---- the code: regime and tail before 52 places, moved up by the exponent size, with the regime counted from 2^-1023
module _ {n es p : ℕ} (f : Format n es) (u : p < nar n) (o : Reading n es p) where
  abbrev scale : ℕ
  scale = o.regime * 2 ^ es + (1023 - m n es)

  abbrev moved : ℕ
  moved = o.t * 2 ^ (52 - o.w)

  abbrev code_is : ℕ
  code_is = scale * 2 ^ 52 + moved * 2 ^ es

  short : 2 ^ es ≤ 4
  short = pow_mono {i = es} {j = 2} f.exponent_fits

  lowest : m n es ≤ 14 * 2 ^ es
  lowest = mul-le-mul_right {m = n - 2} {n = 14} (2 ^ es) (omega (arith, f.not_too_wide))

  highest : o.regime * 2 ^ es ≤ m n es + 14 * 2 ^ es
  highest = omega (arith, mul-le-mul_right {m = o.regime} {n = n - 2 + 14} (2 ^ es) (omega (arith, o.most, f.not_too_wide)))

  tail_less : moved < 2 ^ 52
  tail_less = let e : o.w + (52 - o.w) ≡ 52 = omega (arith, o.few) in rw e at (shl_lt o.w (52 - o.w) o.tail)

  in_all : code_is ≡ (scale * 2 ^ 14 + o.t * 2 ^ (14 - o.w) * 2 ^ es) * 2 ^ 38
  in_all =
      let places : 2 ^ (52 - o.w) ≡ 2 ^ (14 - o.w) * 2 ^ 38 = ap (λ (i : ℕ). 2 ^ i) {x = 52 - o.w} {y = 14 - o.w + 38} (omega (arith, o.few)) ∙ pow-add 2 (14 - o.w) 38 in
      omega (arith, ap (λ (x : ℕ). o.t * x * 2 ^ es) places)

  is_code : IsCode es code_is
  is_code =
      record {
        at_least = omega (arith, short, lowest);
        less = omega (arith, short, lowest, highest, mul-lt-mul_of_pos_right {m = moved} {n = 2 ^ 52} tail_less (pow_pos es));
        few = omega (arith, in_all);
      }

  grows : G 52 code_is ≡ 2 ^ (o.regime * 2 ^ es) * 2 ^ (1023 - m n es) * (2 ^ (52 - o.w) * G o.w (o.t * 2 ^ es))
  grows =
      let all : 52 - o.w + o.w ≡ 52 = omega (arith, o.few) in
      ap (G 52) {y = o.t * 2 ^ es * 2 ^ (52 - o.w) + scale * 2 ^ 52} (omega arith)
      ∙ g_doubles 52 (o.t * 2 ^ es * 2 ^ (52 - o.w)) scale
      ∙ rw (pow-add 2 (o.regime * 2 ^ es) (1023 - m n es))
      (ap (λ (x : ℕ). 2 ^ (o.regime * 2 ^ es) * 2 ^ (1023 - m n es) * x) (rw all at (g_longer (52 - o.w) o.w (o.t * 2 ^ es))))

  crossed : digits_in 52 code_is * 2 ^ scale_in 52 code_is * 2 ^ m n es ≡ multiple (n - 1) es p * 2 ^ (52 + 1023)
  crossed =
      rw (code_stands code_is)
      (cross (multiple (n - 1) es p) (G 52 code_is) (G o.w (o.t * 2 ^ es)) (2 ^ (o.regime * 2 ^ es)) (2 ^ (1023 - m n es)) (2 ^ m n es) (2 ^ o.w) (2 ^ (52 - o.w))
      o.says grows (pow_split {i = 52} {j = o.w} (omega (arith, o.few))) (pow_split {i = 1023} {j = m n es} (omega (arith, short, lowest))) (pow-add 2 52 1023))

  code_of : CodeOf n es p code_is
  code_of =
      record {
        code = is_code;
        says = rw (units_below n es u) ((over_power_pos_≈ (52 + 1023) (m n es)).1 crossed);
      }

  code_less : code_is < 2 ^ 64
  code_less = omega (arith, short, is_code.less)

  -- the machine adds and takes away modulo 2^64, and the code is less than that
  widths : n * 2 ^ es ≡ m n es + 2 * 2 ^ es
  widths = ap (λ (x : ℕ). x * 2 ^ es) {x = n} {y = n - 2 + 2} (omega (arith, f.wide_enough)) ∙ omega arith

  zeros_code : (b : ℕ) → b ≡ (o.regime + 1024) * 2 ^ 52 + moved → CodeOf n es p (below_one n es (b * 2 ^ es))
  zeros_code b e =
      let sum : code_is + ((1022 + n) * 2 ^ es - 1023) * 2 ^ 52 ≡ b * 2 ^ es = omega (arith, ap (λ (x : ℕ). x * 2 ^ es) e, widths, short, lowest, pow_pos es) in
      let same : below_one n es (b * 2 ^ es) ≡ code_is = omega (arith, sum, code_less, stretched_most f) in
      rw same code_of

  ones_code : (b : ℕ) → b + moved + o.regime * 2 ^ 52 ≡ (1024 + 2 * (n - 2)) * 2 ^ 52 → CodeOf n es p (above_one n es ((2 ^ 63 + b) * 2 ^ es))
  ones_code b e =
      let sum : code_is + b * 2 ^ es ≡ ((1022 + n) * 2 ^ es + 1023) * 2 ^ 52 = omega (arith, ap (λ (x : ℕ). x * 2 ^ es) e, widths, short, lowest) in
      let same : above_one n es ((2 ^ 63 + b) * 2 ^ es) ≡ code_is = omega (arith, sum, code_less) in
      rw same code_of

-- ---- what the double made of z tells, by the sign of z
pub record Folds (n es p : ℕ) (z : ℤ) : Type 0 where
  pub number : T (not (is_nan (of_int binary64 z)))
  pub below : lt_z z (pos 0) ≡ true → CodeOf n es p (above_one n es (bits_of z * 2 ^ es))
  pub above : lt_z z (pos 0) ≡ false → CodeOf n es p (below_one n es (bits_of z * 2 ^ es))

-- ---- the difference of two natural numbers
minus_less : (a b d : ℕ) → a ≡ b + d → pos a -ℤ pos b ≡ pos d
minus_less a b d e = simp spread (simp parts (omega arith))

minus_more : (a b d : ℕ) → a + suc d ≡ b → pos a -ℤ pos b ≡ negsuc d
minus_more a b d e = simp spread (simp parts (omega arith))

minus_fits : (a b : ℕ) → a < 2 ^ 31 → b < 2 ^ 31 → SFits w32 (pos a -ℤ pos b)
minus_fits a b h k = elim (dec_lt a b) [
  | yes l ↦ rw (minus_more a b (b - suc a) (omega arith)) (record { sfits = omega arith })
  | no l ↦ rw (minus_less a b (a - b) (omega arith)) (record { sfits = omega arith })
]

-- ---- the pattern twice, with the first bit of its run turned, less that bit
abbrev turned : ℕ → ℕ → ℤ
turned n p = pos (bit_xor (2 * p) (2 ^ (n - 1))) -ℤ pos (2 ^ (n - 1))

turned_zeros : (n p : ℕ) → 2 * p < 2 ^ (n - 1) → turned n p ≡ pos (2 * p)
turned_zeros n p h =
    minus_less (bit_xor (2 * p) (2 ^ (n - 1))) (2 ^ (n - 1)) (2 * p)
    (ap (λ (x : ℕ). bit_xor x (2 ^ (n - 1))) {x = 2 * p} {y = 0 * 2 ^ (n - 1) + 2 * p} (omega arith) ∙ bit_turned (n - 1) 0 h ∙ omega arith)

turned_ones : (n p k : ℕ) → 2 ^ (n - 1) ≤ 2 * p → 2 * p + suc k ≡ 2 * 2 ^ (n - 1) → turned n p ≡ negsuc k
turned_ones n p k h e =
    let at : bit_xor (2 * p) (2 ^ (n - 1)) ≡ 2 * p - 2 ^ (n - 1) = ap (λ (x : ℕ). bit_xor x (2 ^ (n - 1))) {x = 2 * p} {y = 1 * 2 ^ (n - 1) + (2 * p - 2 ^ (n - 1))} (omega arith) ∙ bit_turned (n - 1) 1 {r = 2 * p - 2 ^ (n - 1)} (omega arith) ∙ omega arith in
    minus_more (bit_xor (2 * p) (2 ^ (n - 1))) (2 ^ (n - 1)) k (omega (arith, at))

module _ {n es p : ℕ} (f : Format n es) (u : p < nar n) where
  half : 2 ^ (n - 1) ≡ 2 * 2 ^ (n - 2)
  half = ap (λ (k : ℕ). 2 ^ k) {x = n - 1} {y = suc (n - 2)} (omega (arith, f.wide_enough)) ∙ pow-succ' 2 (n - 2)

  small : 2 ^ (n - 1) ≤ 2 ^ 15
  small = pow_mono {i = n - 1} {j = 15} (omega (arith, f.not_too_wide))

  zeros_folds : (o : Reading n es p) → 2 * p < 2 ^ (n - 1) → bits_of (pos (2 * p)) ≡ (o.regime + 1024) * 2 ^ 52 + o.t * 2 ^ (52 - o.w) → Folds n es p (turned n p)
  zeros_folds o h e =
      rw (turned_zeros n p h)
      (record {
        number = whole_number (2 * p) (omega (arith, small));
        below = λ no. absurd (false≢true (sym (le-ltb (2 * p) 0 zero-le) ∙ no));
        above = λ yes. zeros_code f u o (bits_of (pos (2 * p))) e;
      })

  ones_folds : (o : Reading n es p) (z : ℕ) → p + z ≡ 2 ^ (n - 1) → 2 * z ≤ 2 ^ (n - 1)
      → bits_of (pos (2 * z)) + o.t * 2 ^ (52 - o.w) + o.regime * 2 ^ 52 ≡ (1024 + 2 * (n - 2)) * 2 ^ 52 → Folds n es p (turned n p)
  ones_folds o z s h e =
      let k : ℕ = 2 * z - 1 in
      let twice : 2 * z ≡ suc k = omega arith in
      let few : suc k < 2 ^ 53 = omega (arith, small) in
      rw (turned_ones n p k (omega arith) (omega arith))
      (record {
        number = below_number k few;
        below = λ yes. rw (below_bits k few) (ones_code f u o (bits_of (pos (suc k))) (rw twice at e));
        above = λ no. absurd (true≢false no);
      })

  folds_by_shape : Shape (n - 1) p → Folds n es p (turned n p)
  folds_by_shape (zeros w t h l e) =
      let few : w ≤ 14 = omega (arith, f.not_too_wide) in
      zeros_folds (record {
        regime = w;
        w = w;
        t = t;
        few = few;
        tail = h;
        most = omega arith;
        says = zeros_value (n - 1) p w t h l e es;
      }) (omega (arith, half, pow-succ' 2 w, pow_mono {i = suc w} {j = n - 2} (omega arith))) (rw e (zeros_bits h few))
  folds_by_shape (ones r w t h l e) =
      let few : w ≤ 14 = omega (arith, f.not_too_wide) in
      let bits = ones_bits h few (2 ^ (n - 1) - p) (omega arith) in
      ones_folds (record {
        regime = 2 * r + w + 1;
        w = w;
        t = t;
        few = few;
        tail = h;
        most = omega arith;
        says = ones_value (n - 1) p r w t h l e es;
      }) (2 ^ (n - 1) - p) (omega arith) (omega (arith, half, pow-succ' 2 w, pow_mono {i = suc w} {j = n - 2} (omega arith))) (omega (arith, bits))
  folds_by_shape (all_ones e) =
      let bits = zeros_bits {w = 0} {t = 0} (pow_pos 0) (omega arith) in
      let width : n - 1 ≡ suc (n - 2) = omega (arith, f.wide_enough) in
      ones_folds (record {
        regime = 2 * (n - 2);
        w = 0;
        t = 0;
        few = omega arith;
        tail = pow_pos 0;
        most = omega arith;
        says =
            rw (zero-mul (2 ^ es), g_at_zero 0, mul_assoc 2 (n - 2) (2 ^ es))
            (ap (λ (k : ℕ). k * 2 ^ 0) (rw width (all_ones_value (n - 2) p (rw width at e) es)));
      }) 1 e (omega (arith, half, pow_pos (n - 2))) (omega (arith, bits))

-- ---- the machine's signed number is this one
abbrev machine : ℕ → ℕ → ℤ
machine a b = to_z w32 a -ℤ to_z w32 b

module _ {n es p : ℕ} (f : Format n es) (z : 0 < p) (u : p < nar n) where
  pub bit_small : 2 ^ (n - 1) < 2 ^ 31
  bit_small = omega (arith, small f u)

  pub twice_small : 2 * p < 2 ^ 31
  twice_small = omega (arith, small f u)

  pub turned_small : bit_xor (2 * p) (2 ^ (n - 1)) < 2 ^ 31
  turned_small = xor_lt 31 (2 * p) (2 ^ (n - 1)) twice_small bit_small

  machine_is : machine (bit_xor (2 * p) (2 ^ (n - 1))) (2 ^ (n - 1)) ≡ turned n p
  machine_is = rw (to_z_pos w32 turned_small, to_z_pos w32 bit_small)

  pub machine_fits : SFits w32 (machine (bit_xor (2 * p) (2 ^ (n - 1))) (2 ^ (n - 1)))
  machine_fits = rw machine_is (minus_fits (bit_xor (2 * p) (2 ^ (n - 1))) (2 ^ (n - 1)) turned_small bit_small)

  pub folds : Folds n es p (to_z w32 (of_z w32 (machine (bit_xor (2 * p) (2 ^ (n - 1))) (2 ^ (n - 1)))))
  folds = rw (to_z-of_z machine_fits, machine_is) (folds_by_shape f u (shape (n - 1) p z u))
