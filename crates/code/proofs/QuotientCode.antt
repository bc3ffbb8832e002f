-- The quotient of two codes is told by a double: of fifteen digits by fifteen, the last 28 of its first 53 digits are 0 exactly where nothing follows; otherwise
-- they lie so far above 0, and below 2^28, that the last one may be rounded and twelve of them cut off.
use Rattle.std.proofs.Common.{◌≡◌, ℕ, zero, suc, ◌+◌, ◌-◌, ◌*◌, ◌/◌, ◌%◌, ◌^◌, ◌<◌, ◌≤◌, false, not, T, eqb, sym, refl, ap, ◌∙◌, lt_of_lt_of_le, lt_of_le_of_lt, lt_irrefl, mul-le-mul_right, mod-lt, div-lt_iff_lt-mul, mul-le-mul_left, mul-lt-mul_of_pos_right, mul-pos, div-add-mod', le-div_iff_mul-le, zero-add, mul-div_cancel, arith, pow_pos, pow_mono, pow-add, shl_lt, shr_lt, ne_eqb}
use Prim.Native.Nat.compare
use Prim.Native.Nat.{Ordering}
use Prim.Native.Nat.{compare}
use native.Mathlib.Nat.{pow-succ', mul-div-mul_right, div-div-eq-div-mul, eq_of_mul-eq-mul_right}
use native.Mathlib.Decide.{dec_le}
use lib.Ieee.{Float, nan, inf, fin, Format, binary64, up, down, size, units, round, div, is_nan, of_bits, to_bits}
use lib.Ieee.Digits.{size-lt, size-le, size_reaches}
use lib.Ieee.Exact.{HasValue, units_val}
use lib.Ieee.Fits.{nearest-le, round_is, down_pos}
use lib.Ieee.Nearest.{closest, closest_same, div_same, nearest-ge}
use lib.Ieee.Positive.{first_pos}
use lib.Ieee.Scale.{round_same}
use Rattle.exact.specs.Fraction.{Fraction, ◌<ᶠ◌, ◌≈◌, ◌/ᶠ◌}
use Rattle.exact.proofs.Order.{≈_sym, ◌⨾◌, ≈_≤ᶠ, ≈_<ᶠ, <ᶠ_≈, ≤ᶠ_of_<ᶠ, <ᶠ_≤ᶠ_trans}
use Rattle.exact.proofs.Powers.{pow_split, pow_lt_cancel}
use Rattle.exact.proofs.Quotient.{/ᶠ_cong}
use Rattle.exact.proofs.OverPower.{over_power_pos_≈}
use Rattle.posit.specs.Locating.{given}
use Rattle.posit.specs.Magnitudes.{Within}
use Rattle.posit.proofs.Exactly.{within_respects}
use Rattle.posit.proofs.KnownQuotient.{quotient_within}
use Rattle.code.specs.Code.{IsCode, scale_in, digits_in, code_value}
use Rattle.code.specs.Coded.{Fits, Codes, first}
use Rattle.code.proofs.Doubles.{no_nan, word_of, bits_of}
use Rattle.code.proofs.CodeBits.{units_of, fifteen, fifteen_are, posit_value}
use Rattle.code.proofs.Known.{given_≤, given_<, more_digits, exact_codes}

-- ---- the quotient of two doubles, by fractions of their size
cross_quotient : (A B C D a b c : ℕ) → 0 < c → A * c ≡ a * C → B * c ≡ b * D → A * D * b ≡ a * (B * C)
cross_quotient A B C D a b c some p q =
    eq_of_mul-eq-mul_right c some (A * D * b) (a * (B * C)) (omega (arith, ap (λ (n : ℕ). n * (D * b)) p, ap (λ (n : ℕ). a * C * n) q))

divided : (f : Format) (x y : Float) (a b c : ℕ) → 0 < c → 0 < b → HasValue x false a c → HasValue y false b c → div f x y ≡ round f false a b
unfolding div
divided f nan y a b c some full h k = absurd h
divided f (inf s) y a b c some full h k = absurd h
divided f (fin s m i) nan a b c some full h k = absurd k
divided f (fin s m i) (inf t) a b c some full h k = absurd k
divided f (fin s m i) (fin t n j) a b c some full h k =
    let above : 0 < n * up j = first_pos (n * up j) c (rw k.1 (mul-pos full (down_pos j))) in
    let divisor : 0 < n = first_pos n (up j) above in
    rw (h.0, k.0, ne_eqb n 0 (omega arith))
    (round_same f false (m * up i * down j) (n * up j * down i) a b (mul-pos above (down_pos i)) full
    (cross_quotient (m * up i) (n * up j) (down i) (down j) a b c some h.1 k.1))

-- ---- the first 53 digits of a quotient
-- of a · 2^j over b all digits but 53 are dropped, and so many places of 2^j are left; a double has these digits, the last of them rounded
record Digits (a b j : ℕ) : Type 0 where
  left : ℕ
  dropped : ℕ
  parts : left + dropped ≡ j
  left_least : 52 ≤ left
  left_most : left ≤ 53
  at_least : 2 ^ 52 ≤ a * 2 ^ left / b
  less : a * 2 ^ left / b < 2 ^ 53
  rounded : (num den : ℕ) → 0 < den → num * 2 ^ 1074 * b ≡ a * 2 ^ j * den → round binary64 false num den ≡ units binary64 false (closest (a * 2 ^ left) b) dropped

module _ (a b j : ℕ) (a_least : 2 ^ 14 ≤ a) (a_less : a < 2 ^ 15) (b_least : 2 ^ 14 ≤ b) (b_less : b < 2 ^ 15) (far : 53 ≤ j) where
  abbrev whole : ℕ
  whole = a * 2 ^ j / b

  abbrev dropped : ℕ
  dropped = size whole - 53

  abbrev left : ℕ
  left = j - dropped

  some : 0 < b
  some = omega arith

  size_least : j ≤ size whole
  size_least =
      let half : 2 ^ j ≡ 2 ^ (j - 1) * 2 = pow_split {i = j} {j = 1} (omega arith) in
      let doubled : b ≤ 2 * a = omega arith in
      let reaches : 2 ^ (j - 1) ≤ whole = (le-div_iff_mul-le some).1 (omega (arith, ap (λ (n : ℕ). a * n) half, mul-le-mul_left (2 ^ (j - 1)) doubled)) in
      omega (arith, pow_lt_cancel (j - 1) (size whole) (lt_of_le_of_lt reaches (size-lt whole)))

  size_most : size whole ≤ suc j
  size_most =
      let less : a < 2 * b = omega arith in
      size-le whole (suc j) ((div-lt_iff_lt-mul some).1 (rw (pow-succ' 2 j) (omega (arith, mul-lt-mul_of_pos_right less (pow_pos j)))))

  parts : left + dropped ≡ j
  parts = omega (arith, size_most)

  moved_down : a * 2 ^ j ≡ a * 2 ^ left * 2 ^ dropped
  moved_down = omega (arith, ap (λ (n : ℕ). a * n) (ap (λ (n : ℕ). 2 ^ n) (sym parts) ∙ pow-add 2 left dropped))

  abbrev kept : ℕ
  kept = a * 2 ^ left / b

  kept_is : whole / 2 ^ dropped ≡ kept
  kept_is =
      div-div-eq-div-mul (a * 2 ^ j) b (2 ^ dropped) ∙ ap (λ (n : ℕ). n / (b * 2 ^ dropped)) moved_down
      ∙ mul-div-mul_right (a * 2 ^ left) b (pow_pos dropped)

  full : 53 + dropped ≡ size whole
  full = omega (arith, size_least)

  kept_least : 2 ^ 52 ≤ kept
  kept_least = rw (← kept_is) ((le-div_iff_mul-le (pow_pos dropped)).1 (rw (← pow-add 2 52 dropped) (size_reaches whole (52 + dropped) (omega (arith, full)))))

  kept_less : kept < 2 ^ 53
  kept_less = rw (← kept_is) (shr_lt 53 dropped (rw full (size-lt whole)))

  rounded_is :
      (n den : ℕ) {r : Float} → 0 < den → n * b ≡ a * 2 ^ j * den → r ≡ units binary64 false (closest n (den * 2 ^ (size (n / den) - 53))) (size (n / den) - 53)
      → r ≡ units binary64 false (closest (a * 2 ^ left) b) dropped
  rounded_is n den above same is =
      let places : size (n / den) - 53 ≡ dropped = ap (λ (i : ℕ). size i - 53) (div_same n den (a * 2 ^ j) b above some same) in
      let near : closest n (den * 2 ^ dropped) ≡ closest (a * 2 ^ left) b
      = closest_same n (den * 2 ^ dropped) (a * 2 ^ left) b (mul-pos above (pow_pos dropped)) some (same ∙ omega (arith, ap (λ (i : ℕ). i * den) moved_down)) in
      is ∙ ap (λ (i : ℕ). units binary64 false (closest n (den * 2 ^ i)) i) places ∙ ap (λ (i : ℕ). units binary64 false i dropped) near

  first_digits : Digits a b j
  first_digits =
      record {
        left = left;
        dropped = dropped;
        parts = parts;
        left_least = omega (arith, size_most, size_least);
        left_most = omega (arith, size_least);
        at_least = kept_least;
        less = kept_less;
        rounded = λ num den above same. rounded_is (num * 2 ^ 1074) den above same (round_is binary64 false num den);
      }

-- ---- where the digits from the 26th on lie
-- on a number of 25 digits, or as far from such numbers as fifteen digits of the divisor keep it
data Near (kept rest rounded : ℕ) : Type 0 where
  on_it : kept % 2 ^ 28 ≡ 0 → rest ≡ 0 → rounded ≡ kept → Near kept rest rounded
  beyond : 2 ^ 12 ≤ kept % 2 ^ 28 → kept % 2 ^ 28 + 1 < 2 ^ 28 → kept ≤ rounded → rounded ≤ kept + 1 → Near kept rest rounded

none_less : (b : ℕ) → 0 < b → compare 0 b ≡ Ordering.lt
none_less zero h = absurd (lt_irrefl 0 h)
none_less (suc b) h = compare.zero-suc b

not_rounded : (n b : ℕ) → 0 < b → n % b ≡ 0 → closest n b ≡ n / b
not_rounded n b some none = rw (none, none_less b some)

-- low · b + rest is t · 2^28, for a rest below b
module _ (low b rest t : ℕ) (few : b < 2 ^ 15) (less : rest < b) (is : low * b + rest ≡ t * 2 ^ 28) where
  none_left : t ≡ 0 → low ≡ 0
  none_left none = elim (dec_le 1 low) [
    | yes h ↦ absurd (omega (arith, mul-le-mul_right b h))
    | no h ↦ omega arith
  ]

  far_from_none : 1 ≤ t → 2 ^ 12 ≤ low
  far_from_none some = elim (dec_le (2 ^ 12) low) [
    | yes h ↦ h
    | no h ↦ let most : low ≤ 2 ^ 12 = omega arith in absurd (omega (arith, mul-le-mul_right b most))
  ]

  far_from_next : low < 2 ^ 28 → low + 1 < 2 ^ 28
  far_from_next below = elim (dec_le (2 ^ 28) (low + 1)) [
    | yes h ↦
        let last : low ≡ 2 ^ 28 - 1 = omega arith in
        absurd (omega (arith, ap (λ (n : ℕ). n * b) last))
    | no h ↦ omega arith
  ]

-- kept · b + rest is a multiple of 2^28
multiple_near :
    (kept rest rounded b m : ℕ) → b < 2 ^ 15 → rest < b → kept * b + rest ≡ m * 2 ^ 28 → (rest ≡ 0 → rounded ≡ kept) → kept ≤ rounded → rounded ≤ kept + 1
    → Near kept rest rounded
multiple_near kept rest rounded b m few less is exact at_least at_most = at (m - kept / 2 ^ 28 * b) over
  where
    split : kept ≡ kept / 2 ^ 28 * 2 ^ 28 + kept % 2 ^ 28
    split = omega arith

    over : kept % 2 ^ 28 * b + rest ≡ (m - kept / 2 ^ 28 * b) * 2 ^ 28
    over = omega (arith, is, ap (λ (i : ℕ). i * b) split)

    at : (t : ℕ) → kept % 2 ^ 28 * b + rest ≡ t * 2 ^ 28 → Near kept rest rounded
    at zero e = let none : rest ≡ 0 = omega arith in on_it (none_left (kept % 2 ^ 28) b rest 0 few less e refl) none (exact none)
    at (suc t) e =
        beyond (far_from_none (kept % 2 ^ 28) b rest (suc t) few less e (omega arith)) (far_from_next (kept % 2 ^ 28) b rest (suc t) few less e (omega arith))
        at_least at_most

quotient_near : (a b j : ℕ) → 0 < b → b < 2 ^ 15 → 28 ≤ j → Near (a * 2 ^ j / b) (a * 2 ^ j % b) (closest (a * 2 ^ j) b)
quotient_near a b j some few many =
    let n = a * 2 ^ j in
    let o = compare (n % b * 2) b in
    multiple_near (n / b) (n % b) (closest n b) b (a * 2 ^ (j - 28)) few (mod-lt n some)
    (div-add-mod' n b ∙ omega (arith, ap (λ (i : ℕ). a * i) (pow_split {i = j} {j = 28} many)))
    (not_rounded n b some) (nearest-ge (n / b) o) (omega (arith, nearest-le (n / b) o))

-- ---- what such digits tell
same_place : (g s a t b : ℕ) → s + b ≡ t + a → given g s a ≈ given g t b
same_place g s a t b e =
    let powers : 2 ^ s * 2 ^ b ≡ 2 ^ t * 2 ^ a = sym (pow-add 2 s b) ∙ ap (λ (k : ℕ). 2 ^ k) e ∙ pow-add 2 t a in
    (over_power_pos_≈ a b).1 (omega (arith, ap (λ (k : ℕ). g * k) powers))

-- the bits of a double of 53 digits, without the last twelve
abbrev cut_bits : ℕ → ℕ → ℕ
cut_bits k g = (k * 2 ^ 52 + g) / 2 ^ 12 * 2 ^ 12

-- rounded, they are still 53
near_few : {kept rest rounded : ℕ} → kept < 2 ^ 53 → Near kept rest rounded → rounded < 2 ^ 53
near_few less (on_it zeros none same) = omega arith
near_few less (beyond above below at_least at_most) = omega arith

near_many : {kept rest rounded : ℕ} → 2 ^ 52 ≤ kept → Near kept rest rounded → 2 ^ 52 ≤ rounded
near_many least (on_it zeros none same) = omega arith
near_many least (beyond above below at_least at_most) = omega arith

module _ {es k kept : ℕ} (low : 1022 ≤ k + 48 * 2 ^ es) (high : k < 1022 + 32 * 2 ^ es) (least : 2 ^ 52 ≤ kept) (less : kept < 2 ^ 53) where
  cut_fits : (g : ℕ) → 2 ^ 52 ≤ g → g < 2 ^ 53 → Fits es (cut_bits k g)
  cut_fits g l u = record { at_least = omega arith; less = omega arith; few = omega arith }

  near_codes : {z : Fraction} {s a rest rounded : ℕ} → s + 1075 ≡ k + 1 + a → Within z kept s a (not (eqb rest 0))
      → Near kept rest rounded → Codes es z (cut_bits k rounded)
  near_codes {z} {s} {a} e w (on_it zeros none same) =
      let scale : scale_in 52 (cut_bits k kept) ≡ k + 1 = omega arith in
      let digits : digits_in 52 (cut_bits k kept) ≡ kept = omega arith in
      rw same
      (exact_codes (cut_fits kept least less)
      (w.whole_of_it (rw none refl) ⨾ rw (scale, digits) (same_place kept s a (k + 1) 1075 e)))
  near_codes {z} {s} {a} {rest} {rounded} e w (beyond above below at_least at_most) =
      let c = cut_bits k rounded in
      let cut = kept / 2 ^ 28 in
      let scale : scale_in 24 (first c) ≡ k + 1 = omega arith in
      let digits : digits_in 24 (first c) ≡ cut = omega arith in
      let on_scale : (g : ℕ) → given g (scale_in 24 (first c)) (24 + 1023) ≈ given (g * 2 ^ 28) (k + 1) 1075 = λ (g : ℕ). rw scale (more_digits g (k + 1) (24 + 1023) 28) in
      let more : code_value 24 (first c) <ᶠ z
      = rw digits
      (≈_<ᶠ (on_scale cut)
      (<ᶠ_≤ᶠ_trans (given_< (cut * 2 ^ 28) kept (k + 1) 1075 (omega arith)) (≈_≤ᶠ (≈_sym (same_place kept s a (k + 1) 1075 e)) w.at_least))) in
      record {
        fits = cut_fits rounded (omega arith) (omega arith);
        at_least = ≤ᶠ_of_<ᶠ more;
        less =
            rw digits
            (<ᶠ_≈
            (<ᶠ_≤ᶠ_trans (<ᶠ_≈ w.less (same_place (kept + 1) s a (k + 1) 1075 e)) (given_≤ (kept + 1) ((cut + 1) * 2 ^ 28) (k + 1) 1075 (omega arith)))
            (≈_sym (on_scale (cut + 1))));
        whole_of_it = λ h. absurd (omega arith);
        more_than_it = λ _. more;
      }

-- ---- the bits of a double of 53 digits
word_of_says : (g k : ℕ) → 2 ^ 52 ≤ g → g < 2 ^ 53 → word_of (g * 2 ^ k) ≡ k * 2 ^ 52 + g
word_of_says g k least less =
    let n = g * 2 ^ k in
    let reaches : 2 ^ (52 + k) < 2 ^ size n = rw (pow-add 2 52 k) (lt_of_le_of_lt (mul-le-mul_right (2 ^ k) least) (size-lt n)) in
    let cut : size n - 53 ≡ k = omega (arith, size-le n (53 + k) (shl_lt 53 k less), pow_lt_cancel (52 + k) (size n) reaches) in
    rw cut (ap (λ (i : ℕ). k * 2 ^ 52 + i) (mul-div_cancel g (pow_pos k)))

module _ (g k : ℕ) (least : 2 ^ 52 ≤ g) (less : g < 2 ^ 53) (few : 53 + k ≤ 2098) where
  units_are : HasValue (units binary64 false g k) false (g * 2 ^ k) (2 ^ 1074)
  units_are = units_val binary64 false g k (lt_of_lt_of_le (shl_lt 53 k less) (pow_mono few))

  units_bits : to_bits binary64 (units binary64 false g k) ≡ k * 2 ^ 52 + g
  units_bits = bits_of (units binary64 false g k) false (g * 2 ^ k) units_are ∙ zero-add (word_of (g * 2 ^ k)) ∙ word_of_says g k least less

-- ---- the quotient of two codes
by_fifteen : (c : ℕ) → c % 2 ^ 38 ≡ 0 → given (fifteen c) (scale_in 52 c) 1037 ≈ code_value 52 c
by_fifteen c few = rw (← fifteen_are c few) at (more_digits (fifteen c) (scale_in 52 c) 1037 38)

units_cross : (a b g h s t j k : ℕ) → g ≡ a * 2 ^ 38 → h ≡ b * 2 ^ 38 → s + k ≡ j + t → g * 2 ^ s * 2 ^ k * b ≡ a * 2 ^ j * (h * 2 ^ t)
units_cross a b g h s t j k p q e =
    let powers : 2 ^ s * 2 ^ k ≡ 2 ^ j * 2 ^ t = sym (pow-add 2 s k) ∙ ap (λ (i : ℕ). 2 ^ i) e ∙ pow-add 2 j t in
    rw (p, q) (omega (arith, ap (λ (i : ℕ). a * b * 2 ^ 38 * i) powers))

abbrev pub quotient_bits : ℕ → ℕ → ℕ
quotient_bits x y = to_bits binary64 (div binary64 (of_bits binary64 x) (of_bits binary64 y))

module _ {es x y : ℕ} (few : es ≤ 2) (o : IsCode es x) (q : IsCode es y) where
  power_most : 2 ^ es ≤ 4
  power_most = pow_mono few

  abbrev places : ℕ
  places = scale_in 52 x + 1074 - scale_in 52 y

  places_are : scale_in 52 x + 1074 ≡ places + scale_in 52 y
  places_are = omega (arith, o.at_least, q.less, power_most)

  places_least : 1075 ≤ places + 32 * 2 ^ es
  places_least = omega (arith, o.at_least, q.less, power_most)

  places_less : places < 1074 + 32 * 2 ^ es
  places_less = omega (arith, o.less, q.at_least, power_most)

  digits : Digits (fifteen x) (fifteen y) places
  digits = first_digits (fifteen x) (fifteen y) places (omega arith) (omega arith) (omega arith) (omega arith) (omega (arith, places_least, power_most))

  abbrev rounded : ℕ
  rounded = closest (fifteen x * 2 ^ digits.left) (fifteen y)

  near : Near (fifteen x * 2 ^ digits.left / fifteen y) (fifteen x * 2 ^ digits.left % fifteen y) rounded
  near = quotient_near (fifteen x) (fifteen y) digits.left (omega arith) (omega arith) (omega (arith, digits.left_least))

  quotient_is : div binary64 (of_bits binary64 x) (of_bits binary64 y) ≡ units binary64 false rounded digits.dropped
  quotient_is =
      divided binary64 (of_bits binary64 x) (of_bits binary64 y) (units_of x) (units_of y) (2 ^ 1075) (pow_pos 1075)
      (mul-pos {m = digits_in 52 y} (omega arith) (pow_pos (scale_in 52 y)))
      (posit_value few o) (posit_value few q)
      ∙ digits.rounded (units_of x) (units_of y) (mul-pos {m = digits_in 52 y} (omega arith) (pow_pos (scale_in 52 y)))
      (units_cross (fifteen x) (fifteen y) (digits_in 52 x) (digits_in 52 y) (scale_in 52 x) (scale_in 52 y) places 1074
      (fifteen_are x o.few) (fifteen_are y q.few) places_are)

  dropped_few : 53 + digits.dropped ≤ 2098
  dropped_few = omega (arith, digits.parts, digits.left_least, places_less, power_most)

  rounded_least : 2 ^ 52 ≤ rounded
  rounded_least = near_many digits.at_least near

  rounded_less : rounded < 2 ^ 53
  rounded_less = near_few digits.less near

  bits_are : quotient_bits x y ≡ digits.dropped * 2 ^ 52 + rounded
  bits_are = rw quotient_is (units_bits rounded digits.dropped rounded_least rounded_less dropped_few)

  pub quotient_number : T (not (is_nan (div binary64 (of_bits binary64 x) (of_bits binary64 y))))
  quotient_number =
      rw quotient_is
      (no_nan (units binary64 false rounded digits.dropped) false (rounded * 2 ^ digits.dropped) (2 ^ 1074)
      (units_are rounded digits.dropped rounded_least rounded_less dropped_few))

  pub quotient_small : quotient_bits x y < 2 ^ 64
  quotient_small = omega (arith, bits_are, rounded_less, digits.parts, digits.left_least, places_less, power_most)

  pub quotient_codes : Codes es (code_value 52 x /ᶠ code_value 52 y) (quotient_bits x y / 2 ^ 12 * 2 ^ 12)
  quotient_codes =
      rw bits_are
      (near_codes
      (omega (arith, digits.parts, digits.left_most, places_least))
      (omega (arith, digits.parts, digits.left_least, places_less))
      digits.at_least
      digits.less
      (omega (arith, digits.parts, places_are))
      (within_respects
      (/ᶠ_cong (by_fifteen x o.few) (by_fifteen y q.few))
      (quotient_within (fifteen x) (fifteen y) (scale_in 52 x) (scale_in 52 y) digits.left 1037 (omega arith)))
      near)
