-- What `step_of` makes of a word, in plain arithmetic: the word's first seven bits are the regime and the others the tail; behind the run that the
-- regime asks for, the pattern keeps what the format has room for, and more than 63 is cut off where a digit is.
use Rattle.std.proofs.Common.{◌≡◌, ℕ, zero, suc, ◌+◌, ◌-◌, ◌*◌, ◌/◌, ◌%◌, ◌^◌, ◌<◌, ◌≤◌, Bool, false, not, eqb, ltb, sym, refl, ap, ◌∙◌, ap₂, lt_of_lt_of_le, mod-lt, mod-eq_of_lt, mul_comm, div-lt_iff_lt-mul, mul-le-mul_left, one-mul, div-add-mod', le-div_iff_mul-le, div-le_self, mul-div_cancel, arith, pow_pos, pow_mono, pow-add, shl_lt, shr_lt, le-ltb, lt-ltb, ne_eqb}
use native.Mathlib.Nat.{div-eq_of_lt, mul-sub, add-mul-div_right}
use lib.Arith.{digits_lt, digits_div, digits_mod}
use lib.Pow.{split}
use Rattle.exact.proofs.Powers.{floor_unique}
use Rattle.posit.specs.Format.{Format}
use Rattle.posit.specs.Parts.{chosen_by}
use Rattle.code.specs.Coded.{Fits}

powers : (i j : ℕ) {k : ℕ} → i + j ≡ k → 2 ^ k ≡ 2 ^ i * 2 ^ j
powers i j e = ap (λ (x : ℕ). 2 ^ x) (sym e) ∙ pow-add 2 i j

-- ---- a code of forty digits, counted from 64 regimes below 1: its regime is at least 16 and less than 96
pub record Counted (es c : ℕ) : Type 0 where
  pub at_least : 16 * 2 ^ es * 2 ^ 40 ≤ c
  pub less : c < 96 * 2 ^ es * 2 ^ 40

-- its regime, and its tail: the exponent and the digits behind the first
abbrev pub regime_in : ℕ → ℕ → ℕ
regime_in es c = c / 2 ^ (40 + es)

abbrev pub tail_in : ℕ → ℕ → ℕ
tail_in es c = c % 2 ^ (40 + es)

-- moved up, so that the regime stands first in a word
abbrev pub word_of : ℕ → ℕ → ℕ
word_of es c = c * 2 ^ (17 - es)

-- ---- the bits of a double, counted from 64 regimes below 1 and without the last twelve digits, which are 0
abbrev pub lowest_in : ℕ → ℕ
lowest_in es = (1023 - 64 * 2 ^ es) * 2 ^ 52

abbrev pub code_in : ℕ → ℕ → ℕ
code_in es b = (b - lowest_in es) / 2 ^ 12

abbrev pub word_in : ℕ → ℕ → ℕ
word_in es b = (b - lowest_in es) * 2 ^ (5 - es)

pub few_exponents : {es : ℕ} → es ≤ 2 → 2 ^ es ≤ 4
few_exponents {es} small = pow_mono {i = es} {j = 2} small

module _ {es b : ℕ} (small : es ≤ 2) (f : Fits es b) where
  pub lowest_below : lowest_in es ≤ b
  lowest_below = omega (arith, few_exponents small, f.at_least)

  pub code_counted : Counted es (code_in es b)
  code_counted = record { at_least = omega (arith, few_exponents small, f.at_least); less = omega (arith, few_exponents small, f.at_least, f.less) }

  pub code_whole : code_in es b * 2 ^ 12 + lowest_in es ≡ b
  code_whole = omega (arith, few_exponents small, f.at_least, f.few)

  pub word_moved : word_in es b ≡ word_of es (code_in es b)
  word_moved = at (code_in es b) (2 ^ (5 - es)) (omega (arith, code_whole)) (powers 12 (5 - es) {k = 17 - es} (omega arith))
    where
      at : (e D : ℕ) {d W : ℕ} → d ≡ e * 2 ^ 12 → W ≡ 2 ^ 12 * D → d * D ≡ e * W
      at e D i j = omega (arith, ap (λ (x : ℕ). x * D) i, ap (λ (x : ℕ). e * x) j)

parts_moved : (q M r D W : ℕ) {c : ℕ} → q * M + r ≡ c → W ≡ M * D → c * D ≡ q * W + r * D
parts_moved q M r D W e f = omega (arith, ap (λ (x : ℕ). x * D) e, ap (λ (x : ℕ). q * x) f)

module _ {es c : ℕ} (small : es ≤ 2) (f : Counted es c) where
  abbrev k : ℕ
  k = regime_in es c

  unit_is : 2 ^ (40 + es) ≡ 2 ^ 40 * 2 ^ es
  unit_is = pow-add 2 40 es

  pub regime_at_least : 16 ≤ k
  regime_at_least = (le-div_iff_mul-le {k = 2 ^ (40 + es)} {x = 16} {y = c} (pow_pos (40 + es))).1 (omega (arith, unit_is, f.at_least))

  pub regime_less : k < 96
  regime_less = (div-lt_iff_lt-mul {k = 2 ^ (40 + es)} {x = c} {y = 96} (pow_pos (40 + es))).1 (omega (arith, unit_is, f.less))

  tail_moved : tail_in es c * 2 ^ (17 - es) < 2 ^ 57
  tail_moved = let e : 40 + es + (17 - es) ≡ 57 = omega arith in rw e at (shl_lt (40 + es) (17 - es) (mod-lt c (pow_pos (40 + es))))

  word_is : word_of es c ≡ k * 2 ^ 57 + tail_in es c * 2 ^ (17 - es)
  word_is =
      parts_moved k (2 ^ (40 + es)) (tail_in es c) (2 ^ (17 - es)) (2 ^ 57) (split c (40 + es)) (powers (40 + es) (17 - es) {k = 57} (omega arith))

  word_fits : word_of es c < 2 ^ 64
  word_fits = omega (arith, word_is, tail_moved, regime_less)

  pub word_regime : word_of es c / 2 ^ 57 ≡ k
  word_regime = omega (arith, word_is, tail_moved)

  pub word_tail : word_of es c % 2 ^ 57 ≡ tail_in es c * 2 ^ (17 - es)
  word_tail = omega (arith, word_is, tail_moved)

-- ---- the pattern, whose first bit is the one behind the sign: where the regime is 0 or more, all bits are turned over, and the pattern's again
abbrev pub run_moved : ℕ → ℕ
run_moved z = (2 ^ 63 + z % 2 ^ 57 * 64) / 2 ^ (64 - z / 2 ^ 57)

abbrev pub turned_by : ℕ → ℕ → ℕ
turned_by mark x = chosen_by mark x (2 ^ 64 - 1 - x)

abbrev pub pattern_of : ℕ → ℕ
pattern_of word = turned_by (word / 2 ^ 63) (run_moved (turned_by (word / 2 ^ 63) word))

-- numbers counted from the other end have quotients counted from the other end
other_end : (M d y : ℕ) → y < M * d → 0 < d → (M * d - 1 - y) / d ≡ M - 1 - y / d
other_end M d y l z =
    at (y / d) (y % d) (M - 1 - y / d) (omega (arith, (div-lt_iff_lt-mul {k = d} {x = y} {y = M} z).1 l)) (div-add-mod' y d) (mod-lt y z)
  where
    at : (q r p : ℕ) → p + 1 + q ≡ M → q * d + r ≡ y → r < d → (M * d - 1 - y) / d ≡ p
    at q r p e f k =
        let g : p * d + d + q * d ≡ M * d = omega (arith, ap (λ (x : ℕ). x * d) e) in
        floor_unique (M * d - 1 - y) d p (omega arith) (omega arith)

turned_again : (D j y : ℕ) → D * 2 ^ j ≡ 2 ^ 64 → y < 2 ^ 64 → 2 ^ 64 - 1 - (2 ^ 64 - 1 - y) / 2 ^ j ≡ 2 ^ 64 - D + y / 2 ^ j
turned_again D j y e l =
    let q : (2 ^ 64 - 1 - y) / 2 ^ j ≡ D - 1 - y / 2 ^ j = ap (λ (x : ℕ). (x - 1 - y) / 2 ^ j) (sym e) ∙ other_end D (2 ^ j) y (rw e l) (pow_pos j) in
    let less : y / 2 ^ j < D = (div-lt_iff_lt-mul {k = 2 ^ j} {x = y} {y = D} (pow_pos j)).1 (rw e l) in
    let fits : D * 1 ≤ D * 2 ^ j = mul-le-mul_left D (pow_pos j) in
    omega arith

module _ (word : ℕ) where
  pub zeros_pattern : word / 2 ^ 57 < 64 → pattern_of word ≡ (2 ^ 63 + word % 2 ^ 57 * 64) / 2 ^ (64 - word / 2 ^ 57)
  zeros_pattern l = let mark : word / 2 ^ 63 ≡ 0 = omega arith in rw mark

  pub ones_pattern :
      64 ≤ word / 2 ^ 57 → word / 2 ^ 57 < 128
      → pattern_of word ≡ 2 ^ 64 - 2 ^ (127 - word / 2 ^ 57) + (word % 2 ^ 57 * 64 + 63) / 2 ^ (word / 2 ^ 57 - 63)
  ones_pattern l u =
      let mark : word / 2 ^ 63 ≡ 1 = omega arith in
      let regime : 64 - (2 ^ 64 - 1 - word) / 2 ^ 57 ≡ word / 2 ^ 57 - 63 = omega arith in
      let inside : 2 ^ 63 + (2 ^ 64 - 1 - word) % 2 ^ 57 * 64 ≡ 2 ^ 64 - 1 - (word % 2 ^ 57 * 64 + 63) = omega arith in
      rw (mark, regime, inside)
      (turned_again (2 ^ (127 - word / 2 ^ 57)) (word / 2 ^ 57 - 63) (word % 2 ^ 57 * 64 + 63)
      (sym (powers (127 - word / 2 ^ 57) (word / 2 ^ 57 - 63) {k = 64} (omega arith))) (omega arith))

-- ---- the word of a double's bits: either way its regime is above 0 and below 64
module _ {es b : ℕ} (small : es ≤ 2) (f : Fits es b) where
  c : Counted es (code_in es b)
  c = code_counted small f

  pub word_small : word_in es b < 2 ^ 64
  word_small = rw (word_moved small f) (word_fits small c)

  pub turned_small : let z = turned_by (word_in es b / 2 ^ 63) (word_in es b) in (1 ≤ z / 2 ^ 57) × (z / 2 ^ 57 < 64)
  turned_small =
      rw (word_moved small f)
      (by (word_of es (code_in es b)) (word_of es (code_in es b) / 2 ^ 63) refl (rw (word_regime small c) (regime_at_least small c))
      (rw (word_regime small c) (regime_less small c)))
    where
      by :
          (word mark : ℕ) → word / 2 ^ 63 ≡ mark → 16 ≤ word / 2 ^ 57 → word / 2 ^ 57 < 96
          → (1 ≤ turned_by mark word / 2 ^ 57) × (turned_by mark word / 2 ^ 57 < 64)
      by word zero e l u = (omega arith, omega arith)
      by word (suc mark) e l u = (omega arith, omega arith)

-- ---- a pattern cut by a unit: what it keeps, and whether more than 63 is cut off
pub record Cuts (pattern unit kept : ℕ) (exact : Bool) : Type 0 where
  pub keeps : pattern / unit ≡ kept
  pub rest : ltb 63 (pattern % unit) ≡ not exact

cuts_by :
    {pattern unit kept : ℕ} {exact : Bool} (rest : ℕ) → rest < unit → pattern ≡ kept * unit + rest → ltb 63 rest ≡ not exact
    → Cuts pattern unit kept exact
cuts_by {pattern} {unit} {kept} rest l e t = rw e (record { keeps = digits_div kept l; rest = rw (digits_mod kept l) t })

of_pattern : {p q unit kept : ℕ} {exact : Bool} → p ≡ q → Cuts q unit kept exact → Cuts p unit kept exact
of_pattern e t = rw e t

-- digits from place x on, behind a head, and less than 64 in the lowest places
module _ (head U x d v low : ℕ) (width : x + d ≡ v) (room : 6 ≤ x) (few : low < 64) where
  below_digits : 64 ≤ 2 ^ x
  below_digits = pow_mono {i = 6} room

  cut_digits : (r : ℕ) → ltb 63 (r * 2 ^ x + low) ≡ not (eqb r 0)
  cut_digits zero = le-ltb 63 (0 * 2 ^ x + low) (omega arith)
  cut_digits (suc r) = lt-ltb 63 (suc r * 2 ^ x + low) (omega (arith, below_digits)) ∙ ap not (sym (ne_eqb (suc r) 0 (λ z. omega arith)))

  pub digits_cut : Cuts (head * 2 ^ v + (U * 2 ^ x + low)) (2 ^ v) (head + U / 2 ^ d) (eqb (U % 2 ^ d) 0)
  digits_cut =
      cuts_by (U % 2 ^ d * 2 ^ x + low)
      (rw (powers d x {k = v} (omega arith)) (digits_lt {q = U % 2 ^ d} {m = 2 ^ d} {r = low} {c = 2 ^ x} (mod-lt U (pow_pos d)) (omega (arith, below_digits))))
      (together head (U / 2 ^ d) (U % 2 ^ d) (2 ^ d) (2 ^ x) (2 ^ v) (split U d) (powers d x {k = v} (omega arith)))
      (cut_digits (U % 2 ^ d))
    where
      together : (h q r D X W : ℕ) → q * D + r ≡ U → W ≡ D * X → h * W + (U * X + low) ≡ (h + q) * W + (r * X + low)
      together h q r D X W e f = omega (arith, ap (λ (k : ℕ). k * X) e, ap (λ (k : ℕ). q * k) f)

-- ---- the pattern of a code, cut to n bits
pub kept_small : {n es pattern : ℕ} → Format n es → pattern < 2 ^ 64 → pattern / 2 ^ (65 - n) < 2 ^ 15
kept_small {n} f l =
    let width : n - 1 + (65 - n) ≡ 64 = omega (arith, f.wide_enough, f.not_too_wide) in
    lt_of_lt_of_le (shr_lt (n - 1) (65 - n) (rw width l)) (pow_mono {i = n - 1} {j = 15} (omega (arith, f.not_too_wide)))

module _ {n es c : ℕ} (f : Format n es) (i : Counted es c) where
  abbrev regime : ℕ
  regime = regime_in es c

  abbrev tail : ℕ
  tail = tail_in es c

  abbrev unit : ℕ
  unit = 2 ^ (65 - n)

  -- the tail stands from place 23 - es on
  tail_parts : (x j : ℕ) → x + j ≡ 23 - es → word_of es c % 2 ^ 57 * 64 ≡ tail * 2 ^ x * 2 ^ j
  tail_parts x j e =
      at (2 ^ (17 - es)) (2 ^ x) (2 ^ j) (word_tail f.exponent_fits i)
      (sym (powers (17 - es) 6 {k = 23 - es} (omega (arith, f.exponent_fits))) ∙ powers x j e)
    where
      at : (D X J : ℕ) {t : ℕ} → t ≡ tail * D → D * 64 ≡ X * J → t * 64 ≡ tail * X * J
      at D X J e f = omega (arith, ap (λ (k : ℕ). k * 64) e, ap (λ (k : ℕ). tail * k) f)

  zeros_whole : regime < 64 → pattern_of (word_of es c) ≡ (2 ^ 63 + word_of es c % 2 ^ 57 * 64) / 2 ^ (64 - regime)
  zeros_whole l =
      let e = word_regime f.exponent_fits i in
      zeros_pattern (word_of es c) (rw e l) ∙ ap (λ (k : ℕ). (2 ^ 63 + word_of es c % 2 ^ 57 * 64) / 2 ^ (64 - k)) e

  ones_whole :
      64 ≤ regime → pattern_of (word_of es c) ≡ 2 ^ 64 - 2 ^ (127 - regime) + (word_of es c % 2 ^ 57 * 64 + 63) / 2 ^ (regime - 63)
  ones_whole l =
      let e = word_regime f.exponent_fits i in
      ones_pattern (word_of es c) (rw e l) (rw e (omega (arith, regime_less f.exponent_fits i)))
      ∙ ap (λ (k : ℕ). 2 ^ 64 - 2 ^ (127 - k) + (word_of es c % 2 ^ 57 * 64 + 63) / 2 ^ (k - 63)) e

  -- the run of zeros leaves w bits for the tail
  pub zeros_cut :
      (w : ℕ) → w + 66 ≡ regime + n → regime < 64
      → Cuts (pattern_of (word_of es c)) unit (2 ^ w + tail / 2 ^ (40 + es - w)) (eqb (tail % 2 ^ (40 + es - w)) 0)
  zeros_cut w e l =
      let wide : 3 ≤ n = f.wide_enough in
      let narrow : n ≤ 16 = f.not_too_wide in
      let small : es ≤ 2 = f.exponent_fits in
      let x = regime - 41 - es in
      let run : 2 ^ 63 ≡ 2 ^ w * unit * 2 ^ (64 - regime) =
      powers (w + (65 - n)) (64 - regime) {k = 63} (omega arith) ∙ ap (λ (k : ℕ). k * 2 ^ (64 - regime)) (pow-add 2 w (65 - n))
      in
      let word_is : 2 ^ 63 + word_of es c % 2 ^ 57 * 64 ≡ (2 ^ w * unit + (tail * 2 ^ x + 0)) * 2 ^ (64 - regime) =
      ap₂ (λ (a b : ℕ). a + b) run (tail_parts x (64 - regime) (omega arith)) ∙ omega arith
      in
      of_pattern (zeros_whole l ∙ ap (λ (k : ℕ). k / 2 ^ (64 - regime)) word_is ∙ mul-div_cancel (2 ^ w * unit + (tail * 2 ^ x + 0)) (pow_pos (64 - regime)))
      (digits_cut (2 ^ w) tail x (40 + es - w) (65 - n) 0 (omega arith) (omega arith) (omega arith))

  -- a run of ones with room for its end, and the longest
  behind_ones :
      (head d : ℕ) → 64 ≤ regime → regime ≤ n + 62 → head * unit ≡ 2 ^ 64 - 2 ^ (127 - regime) → 86 + d ≡ 65 - n + es + regime
      → Cuts (pattern_of (word_of es c)) unit (head + tail / 2 ^ d) (eqb (tail % 2 ^ d) 0)
  behind_ones head d l u e width =
      let wide : 3 ≤ n = f.wide_enough in
      let narrow : n ≤ 16 = f.not_too_wide in
      let small : es ≤ 2 = f.exponent_fits in
      let x = 86 - es - regime in
      let j = regime - 63 in
      let digits : (word_of es c % 2 ^ 57 * 64 + 63) / 2 ^ j ≡ tail * 2 ^ x + 63 / 2 ^ j =
      ap (λ (k : ℕ). (k + 63) / 2 ^ j) (tail_parts x j (omega arith)) ∙ ap (λ (k : ℕ). k / 2 ^ j) {y = 63 + tail * 2 ^ x * 2 ^ j} (omega arith)
      ∙ add-mul-div_right 63 (tail * 2 ^ x) (pow_pos j) ∙ omega arith
      in
      of_pattern (ones_whole l ∙ ap (λ (k : ℕ). 2 ^ 64 - 2 ^ (127 - regime) + k) digits ∙ ap (λ (k : ℕ). k + (tail * 2 ^ x + 63 / 2 ^ j)) (sym e))
      (digits_cut head tail x d (65 - n) (63 / 2 ^ j) (omega arith) (omega arith) (omega (arith, div-le_self 63 (2 ^ j))))

  in_all : 2 ^ (n - 1) * unit ≡ 2 ^ 64
  in_all = sym (powers (n - 1) (65 - n) {k = 64} (omega (arith, f.wide_enough, f.not_too_wide)))

  head_less : (B G : ℕ) → B * unit ≡ G → (2 ^ (n - 1) - B) * unit ≡ 2 ^ 64 - G
  head_less B G e = mul_comm (2 ^ (n - 1) - B) unit ∙ mul-sub unit (2 ^ (n - 1)) B ∙ omega (arith, in_all, ap (λ (k : ℕ). 2 ^ 64 - k) e)

  pub ones_cut :
      (w : ℕ) → w + regime ≡ n + 61 → 64 ≤ regime
      → Cuts (pattern_of (word_of es c)) unit (2 ^ (n - 1) - 2 * 2 ^ w + tail / 2 ^ (40 + es - w)) (eqb (tail % 2 ^ (40 + es - w)) 0)
  ones_cut w e l =
      let wide : 3 ≤ n = f.wide_enough in
      let narrow : n ≤ 16 = f.not_too_wide in
      behind_ones (2 ^ (n - 1) - 2 * 2 ^ w) (40 + es - w) l (omega arith)
      (head_less (2 * 2 ^ w) (2 ^ (127 - regime)) (sym (powers (1 + w) (65 - n) {k = 127 - regime} (omega arith) ∙ ap (λ (k : ℕ). k * unit) (pow-add 2 1 w))))
      (omega arith)

  pub last_cut : regime ≡ n + 62 → Cuts (pattern_of (word_of es c)) unit (2 ^ (n - 1) - 1) (eqb tail 0)
  last_cut e =
      let wide : 3 ≤ n = f.wide_enough in
      let narrow : n ≤ 16 = f.not_too_wide in
      let fits : tail < 2 ^ (41 + es) = lt_of_lt_of_le (mod-lt c (pow_pos (40 + es))) (pow_mono {i = 40 + es} {j = 41 + es} (omega arith)) in
      let none : 2 ^ (n - 1) - 1 + tail / 2 ^ (41 + es) ≡ 2 ^ (n - 1) - 1 = omega (arith, div-eq_of_lt fits) in
      rw (none, mod-eq_of_lt fits) at
      (behind_ones (2 ^ (n - 1) - 1) (41 + es) (omega arith) (omega arith)
      (head_less 1 (2 ^ (127 - regime)) (one-mul unit ∙ ap (λ (k : ℕ). 2 ^ k) {x = 65 - n} {y = 127 - regime} (omega arith)))
      (omega arith))

  pub beyond_cut : n + 63 ≤ regime → Cuts (pattern_of (word_of es c)) unit (2 ^ (n - 1) - 1) false
  beyond_cut l =
      let wide : 3 ≤ n = f.wide_enough in
      let narrow : n ≤ 16 = f.not_too_wide in
      let j = regime - 63 in
      let cut = (word_of es c % 2 ^ 57 * 64 + 63) / 2 ^ j in
      let width : 127 - regime + j ≡ 64 = omega (arith, regime_less f.exponent_fits i) in
      let less : cut < 2 ^ (127 - regime) = shr_lt (127 - regime) j (rw width (omega arith)) in
      far (2 ^ (127 - regime)) cut less (pow_mono {i = 127 - regime} {j = 64 - n} (omega arith)) (ones_whole (omega arith))
    where
      far :
          (run cut : ℕ) → cut < run → run ≤ 2 ^ (64 - n) → pattern_of (word_of es c) ≡ 2 ^ 64 - run + cut
          → Cuts (pattern_of (word_of es c)) unit (2 ^ (n - 1) - 1) false
      far run cut l u e =
          let room : 2 ^ 48 ≤ 2 ^ (64 - n) = pow_mono {i = 48} (omega (arith, f.not_too_wide)) in
          let twice : unit ≡ 2 * 2 ^ (64 - n) = powers 1 (64 - n) {k = 65 - n} (omega (arith, f.not_too_wide)) in
          let fits : unit ≤ 2 ^ 64 = pow_mono {i = 65 - n} {j = 64} (omega (arith, f.wide_enough)) in
          cuts_by (unit - run + cut) (omega arith) (e ∙ omega (arith, head_less 1 unit (one-mul unit))) (lt-ltb 63 (unit - run + cut) (omega arith))

  pub below_cut : regime + n < 66 → Cuts (pattern_of (word_of es c)) unit 0 false
  below_cut l =
      let wide : 3 ≤ n = f.wide_enough in
      let k = 64 - regime in
      let whole = 2 ^ 63 + word_of es c % 2 ^ 57 * 64 in
      let width : regime + k ≡ 64 = omega arith in
      let less : whole / 2 ^ k < 2 ^ regime = shr_lt regime k (rw width (omega arith)) in
      let six : 64 * 2 ^ k ≤ 2 ^ 63 = rw (← pow-add 2 6 k) (pow_mono {i = 6 + k} {j = 63} (omega (arith, regime_at_least f.exponent_fits i))) in
      let more : 64 ≤ whole / 2 ^ k = (le-div_iff_mul-le {k = 2 ^ k} {x = 64} {y = whole} (pow_pos k)).1 (omega arith) in
      cuts_by (whole / 2 ^ k) (lt_of_lt_of_le less (pow_mono {i = regime} {j = 65 - n} (omega arith))) (zeros_whole (omega arith) ∙ omega arith)
      (lt-ltb 63 (whole / 2 ^ k) more)
