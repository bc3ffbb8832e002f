-- The pattern that `step_of` cuts from a code's word is the floor of every number that the code tells of: regime and tail are those of the laws on
-- brackets (`Bracketed`), for the code's number by all its digits, and for the numbers that begin as it does by the first 24, which have the same pattern.
use Rattle.std.proofs.Common.{◌≡◌, ℕ, zero, suc, ◌+◌, ◌-◌, ◌*◌, ◌/◌, ◌%◌, ◌^◌, ◌<◌, ◌≤◌, Bool, true, false, not, eqb, ltb, sym, refl, ap, ◌∙◌, mul-le-mul_right, mod-lt, mul_assoc, mul-lt-mul_of_pos_right, lt_of_not-le, arith, pow_pos, pow-add, shr-shr, eq-eqb, ne_eqb}
use native.Mathlib.Decide.{dec_le}
use lib.Pow.{split, mod-pow-add}
use mir.Val.{bool_byte}
use Rattle.exact.specs.Fraction.{Fraction, ◌≈◌, ◌≤ᶠ◌, ◌<ᶠ◌}
use Rattle.exact.proofs.Order.{clashᶠ, ≈_sym, ≈_trans, ≤ᶠ_refl, ≤ᶠ_of_≈, ≤ᶠ_<ᶠ_trans, <ᶠ_≈, ≈_<ᶠ}
use Rattle.posit.specs.Format.{Format}
use Rattle.posit.specs.Parts.{HighestBit}
use Rattle.posit.specs.Value.{value}
use Rattle.posit.specs.Locating.{Locates, IsFloor, given}
use Rattle.posit.proofs.Place.{behind, unit_of}
use Rattle.posit.proofs.Bracketed.{lowest, Brackets, below_all, behind_zeros, behind_ones, beyond_last, at_last}
use Rattle.posit.proofs.FromBrackets.{locates, over_lt, over_same}
use Rattle.posit.proofs.Exactly.{next_given}
use Rattle.code.specs.Code.{scale_in, digits_in, code_value}
use Rattle.code.specs.Coded.{Fits, first}
use Rattle.code.specs.Step.{IsStep, StepOf}
use Rattle.code.proofs.Cutting.{Cuts, regime_in, tail_in, word_of, pattern_of, Counted, code_in, word_in, word_moved, code_counted, code_whole, few_exponents, below_cut, zeros_cut, ones_cut, last_cut, beyond_cut}

-- ---- g · 2^s / 2^(h + 1023) with h digits behind the first, of the regime k counted from -64 and the exponent e
record Told (n es k e h g s : ℕ) : Type 0 where
  pub format : Format n es
  pub high : HighestBit g h
  pub few : 16 ≤ h
  pub small : e < 2 ^ es
  pub scale : k * 2 ^ es + e + 1023 ≡ s + 64 * 2 ^ es

module _ {n es k e h g s : ℕ} (t : Told n es k e h g s) where
  abbrev Placed : ℕ → Bool → Type 0
  Placed = Locates (n - 1) es g s (h + 1023)

  some : 0 < n - 1
  some = omega (arith, t.format.wide_enough)

  place : {L : ℕ} {exact : Bool} → Brackets (n - 1) es g s (h + 1023) L exact → Placed L exact
  place {L} b = locates (n - 1) es g s (h + 1023) L some b

  -- q is the regime counted from minPos's
  from_lowest : (q : ℕ) → q + 66 ≡ k + n → q * 2 ^ es + e + (h + 1023) ≡ s + h + lowest (n - 1) es
  from_lowest q i = at (2 ^ es) (n - 1 - 1) (omega (arith, t.format.wide_enough)) t.scale
    where
      at : (E m : ℕ) → m + 2 ≡ n → k * E + e + 1023 ≡ s + 64 * E → q * E + e + (h + 1023) ≡ s + h + m * E
      at E m j l = omega (arith, ap (λ (x : ℕ). x * E) i, ap (λ (x : ℕ). x * E) j)

  located_below : k + n < 66 → Placed 0 false
  located_below l =
      let least : s + h + lowest (n - 1) es < h + 1023 = at (2 ^ es) (n - 1 - 1) (omega (arith, t.format.wide_enough)) t.small t.scale in
      place (below_all (n - 1) es g s (h + 1023) h some t.high.at_least t.high.less least)
    where
      at : (E m : ℕ) → m + 2 ≡ n → e < E → k * E + e + 1023 ≡ s + 64 * E → s + h + m * E < h + 1023
      at E m i j x = omega (arith, mul-le-mul_right {m = k + m + 1} {n = 64} E (omega arith))

  located_zeros : (w : ℕ) → w + 66 ≡ k + n → k < 64 → Placed (2 ^ w + behind h e g / unit_of es h w) (eqb (behind h e g % unit_of es h w) 0)
  located_zeros w i l =
      place
      (behind_zeros (n - 1) es g s (h + 1023) h some t.high.at_least t.high.less w w e t.small
      (omega (arith, t.few, t.format.not_too_wide)) (from_lowest w i) refl (omega arith))

  located_ones :
      (w : ℕ) → w + k ≡ n + 61 → 64 ≤ k → Placed (2 ^ (n - 1) - 2 * 2 ^ w + behind h e g / unit_of es h w) (eqb (behind h e g % unit_of es h w) 0)
  located_ones w i l =
      place
      (behind_ones (n - 1) es g s (h + 1023) h some t.high.at_least t.high.less w (k + n - 66) e t.small
      (omega (arith, t.few, t.format.not_too_wide)) (from_lowest (k + n - 66) (omega (arith, t.format.wide_enough))) (omega arith) (omega (arith, t.format.wide_enough)))

  module _ (q : ℕ) (i : q + 66 ≡ k + n) where
    located_last : q * 2 ^ es + e ≡ 2 * lowest (n - 1) es → Placed (2 ^ (n - 1) - 1) (eqb g (2 ^ h))
    located_last j =
        place (at_last (n - 1) es g s (h + 1023) h some t.high.at_least t.high.less (q * 2 ^ es + e) (from_lowest q i) j)

    located_beyond : 2 * lowest (n - 1) es < q * 2 ^ es + e → Placed (2 ^ (n - 1) - 1) false
    located_beyond j =
        place (beyond_last (n - 1) es g s (h + 1023) h some t.high.at_least t.high.less (q * 2 ^ es + e) (from_lowest q i) j)

-- ---- the number of a double's bits b by all its digits, and by the first 24
module _ {n es b : ℕ} (f : Format n es) (i : Fits es b) where
  abbrev code : ℕ
  code = code_in es b

  abbrev exponent : ℕ
  exponent = code / 2 ^ 40 % 2 ^ es

  abbrev tail : ℕ
  tail = tail_in es code

  b_is : code * 2 ^ 12 + (1023 - 64 * 2 ^ es) * 2 ^ 52 ≡ b
  b_is = code_whole f.exponent_fits i

  exponents : 2 ^ es ≤ 4
  exponents = few_exponents f.exponent_fits

  scale_parts : regime_in es code * 2 ^ es + exponent + 1023 ≡ scale_in 52 b + 64 * 2 ^ es
  scale_parts = omega (arith, b_is, exponents, rw (shr-shr code 40 es) at (split (code / 2 ^ 40) es))

  told : {h g s : ℕ} → HighestBit g h → 16 ≤ h → s ≡ scale_in 52 b → Told n es (regime_in es code) exponent h g s
  told t l e = record { format = f; high = t; few = l; small = mod-lt (code / 2 ^ 40) (pow_pos es); scale = omega (arith, scale_parts) }

  all_told : Told n es (regime_in es code) exponent 40 (digits_in 40 (b / 2 ^ 12)) (scale_in 40 (b / 2 ^ 12))
  all_told = told (record { at_least = omega arith; less = omega arith }) (omega arith) (omega arith)

  first_told : Told n es (regime_in es code) exponent 24 (digits_in 24 (first b)) (scale_in 24 (first b))
  first_told = told (record { at_least = omega arith; less = omega arith }) (omega arith) (omega arith)

  all_behind : behind 40 exponent (digits_in 40 (b / 2 ^ 12)) ≡ tail
  all_behind =
      let e : es + 40 ≡ 40 + es = omega arith in
      omega (arith, b_is, rw e at (mod-pow-add code es 40))

  first_behind : (w : ℕ) → w ≤ 24 → behind 24 exponent (digits_in 24 (first b)) / unit_of es 24 w ≡ tail / 2 ^ (40 + es - w)
  first_behind w l =
      let fewer : behind 24 exponent (digits_in 24 (first b)) ≡ tail / 2 ^ 16 = omega (arith, all_behind) in
      ap (λ (x : ℕ). x / unit_of es 24 w) fewer ∙ shr-shr tail 16 (24 + es - w) ∙ ap (λ (x : ℕ). tail / 2 ^ x) {y = 40 + es - w} (omega arith)

-- ---- the same number with more digits
more_digits : (g g' i s a : ℕ) → g' ≡ g * 2 ^ i → given g s a ≈ given g' s (i + a)
more_digits g g' i s a e = over_same (g * 2 ^ s) a (g' * 2 ^ s) (i + a) (rw (pow-add 2 i a) (omega (arith, ap (λ (x : ℕ). x * 2 ^ s * 2 ^ a) e)))

more_given : {g g' : ℕ} (s a : ℕ) → g < g' → given g s a <ᶠ given g' s a
more_given {g} {g'} s a l =
    over_lt (g * 2 ^ s) a (g' * 2 ^ s) a (mul-lt-mul_of_pos_right (mul-lt-mul_of_pos_right l (pow_pos s)) (pow_pos a))

module _ (b : ℕ) where
  all_of_it : b % 2 ^ 12 ≡ 0 → code_value 40 (b / 2 ^ 12) ≈ code_value 52 b
  all_of_it e =
      let scale : scale_in 40 (b / 2 ^ 12) ≡ scale_in 52 b = omega arith in
      rw scale (more_digits (digits_in 40 (b / 2 ^ 12)) (digits_in 52 b) 12 (scale_in 52 b) (40 + 1023) (omega arith))

  first_less : 0 < b % 2 ^ 28 → code_value 24 (first b) <ᶠ code_value 52 b
  first_less l =
      let scale : scale_in 24 (first b) ≡ scale_in 52 b = omega arith in
      rw scale
      (≈_<ᶠ (more_digits (digits_in 24 (first b)) (digits_in 24 (first b) * 2 ^ 28) 28 (scale_in 52 b) (24 + 1023) refl)
      (more_given (scale_in 52 b) (52 + 1023) (omega arith)))

-- ---- the step by a pattern that was cut: what it keeps, and whether something was cut off
abbrev pub step_from : ℕ → ℕ → ℕ
step_from pattern unit = 2 * (pattern / unit) + bool_byte (ltb 63 (pattern % unit))

pub step_small : {p : ℕ} (gap : Bool) → p < 2 ^ 15 → 2 * p + bool_byte gap < 2 ^ 32
step_small true l = omega arith
step_small false l = omega arith

on_posit : {n es p : ℕ} {z : Fraction} → IsFloor n es z p → z ≈ value n es p → IsStep n es z (2 * p + 0)
on_posit {p = p} l e =
    let half : (2 * p + 0) / 2 ≡ p = omega arith in
    record { floor = rw half l; on_it = λ even. rw half e; beyond = λ odd. absurd (omega arith) }

above_posit : {n es p : ℕ} {z : Fraction} → IsFloor n es z p → value n es p <ᶠ z → IsStep n es z (2 * p + 1)
above_posit {p = p} l e =
    let half : (2 * p + 1) / 2 ≡ p = omega arith in
    record { floor = rw half l; on_it = λ even. absurd (omega arith); beyond = λ odd. rw half e }

module _
    {n es b pattern unit kept : ℕ}
    {exact first_exact : Bool}
    (f : Format n es)
    (i : Fits es b)
    (t : Cuts pattern unit kept exact)
    (all : Locates (n - 1) es (digits_in 40 (b / 2 ^ 12)) (scale_in 40 (b / 2 ^ 12)) (40 + 1023) kept exact)
    (some : Locates (n - 1) es (digits_in 24 (first b)) (scale_in 24 (first b)) (24 + 1023) kept first_exact)
  where
    width : n - 1 + 1 ≡ n
    width = omega (arith, f.wide_enough)

    floor_here : {z : Fraction} → code_value 24 (first b) ≤ᶠ z → z <ᶠ given (digits_in 24 (first b) + 1) (scale_in 24 (first b)) (24 + 1023) → IsFloor n es z kept
    floor_here {z} from to = rw width at (some.floor z from to)

    first_above : value n es kept ≤ᶠ code_value 24 (first b)
    first_above =
        (floor_here (≤ᶠ_refl (code_value 24 (first b))) (next_given (digits_in 24 (first b)) (scale_in 24 (first b)) (24 + 1023))).at_most

    hit_here : exact ≡ true → code_value 52 b ≈ value n es kept
    hit_here e = ≈_trans (≈_sym (all_of_it b i.few)) (rw width at (all.hit e))

    miss_here : exact ≡ false → value n es kept <ᶠ code_value 52 b
    miss_here e = <ᶠ_≈ (rw width at (all.miss e)) (all_of_it b i.few)

    pub steps : StepOf n es b (step_from pattern unit)
    steps z k = rw (t.keeps, t.rest) (by exact (dec_le 1 (b % 2 ^ 28)) refl)
      where
        here : IsFloor n es z kept
        here = floor_here k.at_least k.less

        all_known : ¬ (1 ≤ b % 2 ^ 28) → z ≈ code_value 52 b
        all_known l = k.whole_of_it (omega (arith, lt_of_not-le l))

        by : (x : Bool) → Dec (1 ≤ b % 2 ^ 28) → exact ≡ x → IsStep n es z (2 * kept + bool_byte (not x))
        by true (no l) e = on_posit here (≈_trans (all_known l) (hit_here e))
        by false (no l) e = above_posit here (<ᶠ_≈ (miss_here e) (≈_sym (all_known l)))
        by true (yes l) e = clashᶠ (≤ᶠ_<ᶠ_trans first_above (first_less b l)) (≤ᶠ_of_≈ (hit_here e))
        by false (yes l) e = above_posit here (≤ᶠ_<ᶠ_trans first_above (k.more_than_it l))

-- ---- by the regime: below minPos's, a run of zeros, a run of ones, maxPos's, and above it
module _ {n es b : ℕ} (f : Format n es) (i : Fits es b) where
  abbrev regime : ℕ
  regime = regime_in es (code_in es b)

  abbrev word : ℕ
  word = word_of es (code_in es b)

  j : Counted es (code_in es b)
  j = code_counted f.exponent_fits i

  abbrev Here : Type 0
  Here = StepOf n es b (step_from (pattern_of word) (2 ^ (65 - n)))

  step_below : regime + n < 66 → Here
  step_below l = steps f i (below_cut f j l) (located_below (all_told f i) l) (located_below (first_told f i) l)

  step_zeros : 66 ≤ regime + n → regime < 64 → Here
  step_zeros l u =
      let w = regime + n - 66 in
      let e : w + 66 ≡ regime + n = omega arith in
      let narrow : n ≤ 16 = f.not_too_wide in
      steps f i (zeros_cut f j w e u) (rw (all_behind f i) at (located_zeros (all_told f i) w e u))
      (rw (first_behind f i w (omega arith)) at (located_zeros (first_told f i) w e u))

  step_ones : 64 ≤ regime → regime ≤ n + 61 → Here
  step_ones l u =
      let w = n + 61 - regime in
      let e : w + regime ≡ n + 61 = omega arith in
      let narrow : n ≤ 16 = f.not_too_wide in
      steps f i (ones_cut f j w e l) (rw (all_behind f i) at (located_ones (all_told f i) w e l))
      (rw (first_behind f i w (omega arith)) at (located_ones (first_told f i) w e l))

  -- the regime is maxPos's or more
  past :
      (q : ℕ) → q + 66 ≡ regime + n → 2 * lowest (n - 1) es < q * 2 ^ es + exponent f i
      → Cuts (pattern_of word) (2 ^ (65 - n)) (2 ^ (n - 1) - 1) false → Here
  past q e l t = steps f i t (located_beyond (all_told f i) q e l) (located_beyond (first_told f i) q e l)

  -- maxPos's regime, counted from minPos's
  abbrev top : ℕ
  top = 2 * (n - 1 - 1)

  top_scale : top * 2 ^ es ≡ 2 * lowest (n - 1) es
  top_scale = mul_assoc 2 (n - 1 - 1) (2 ^ es)

  step_last : regime ≡ n + 62 → Here
  step_last e = by (exponent f i) refl
    where
      counted : top + 66 ≡ regime + n
      counted = omega (arith, f.wide_enough)

      tests : (d t : ℕ) → d ≡ t + 2 ^ 40 → eqb d (2 ^ 40) ≡ eqb t 0
      tests d zero k = eq-eqb d (2 ^ 40) (omega arith)
      tests d (suc t) k = ne_eqb d (2 ^ 40) (λ z. omega arith) ∙ sym (ne_eqb (suc t) 0 (λ z. omega arith))

      by : (x : ℕ) → exponent f i ≡ x → Here
      by zero z =
          let on_it : top * 2 ^ es + exponent f i ≡ 2 * lowest (n - 1) es = omega (arith, top_scale) in
          steps f i (last_cut f j e)
          (rw (tests (digits_in 40 (b / 2 ^ 12)) (tail f i) (omega (arith, all_behind f i))) at (located_last (all_told f i) top counted on_it))
          (located_last (first_told f i) top counted on_it)
      by (suc x) z =
          past top counted (omega (arith, top_scale)) (rw (ne_eqb (tail f i) 0 (λ y. omega (arith, all_behind f i))) at (last_cut f j e))

  step_beyond : n + 63 ≤ regime → Here
  step_beyond l =
      let q = regime + n - 66 in
      let more : suc top * 2 ^ es ≤ q * 2 ^ es = mul-le-mul_right {m = suc top} {n = q} (2 ^ es) (omega (arith, f.wide_enough)) in
      past q (omega (arith, f.wide_enough)) (omega (arith, top_scale, pow_pos es)) (beyond_cut f j l)

  by_regime : Here
  by_regime = by (dec_le 66 (regime + n)) (dec_le 64 regime) (dec_le (n + 62) regime) (dec_le (n + 63) regime)
    where
      by : Dec (66 ≤ regime + n) → Dec (64 ≤ regime) → Dec (n + 62 ≤ regime) → Dec (n + 63 ≤ regime) → Here
      by (no a) b d e = step_below (lt_of_not-le a)
      by (yes a) (no b) d e = step_zeros a (lt_of_not-le b)
      by (yes a) (yes b) (no d) e = step_ones b (omega (arith, lt_of_not-le d))
      by (yes a) (yes b) (yes d) (no e) = step_last (omega (arith, lt_of_not-le e))
      by (yes a) (yes b) (yes d) (yes e) = step_beyond e

  pub step_is : StepOf n es b (step_from (pattern_of (word_in es b)) (2 ^ (65 - n)))
  step_is = rw (word_moved f.exponent_fits i) by_regime
