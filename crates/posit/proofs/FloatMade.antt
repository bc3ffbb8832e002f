-- The float that is made for g · 2^s, g odd and small: its digits are g moved up until its highest bit is the leading one, the exponent counts that,
-- and reading the bits divides the same power of two out again.
use Rattle.std.proofs.Common.{◌≡◌, ℕ, zero, suc, ◌+◌, ◌-◌, ◌*◌, ◌%◌, ◌^◌, ◌<◌, ◌≤◌, Bool, true, false, cond, not, T, leb, ℤ, pos, negsuc, ◌+ℤ◌, nat_abs, sym, ap, ◌∙◌, lt_irrefl, mul-le-mul_right, mul-pos, arith, leb→le, pow_pos, pow-add, w32, w64, Fits, SFits, to_z, of_z, le-leb}
use lib.Dec.{nleb→lt}
use lib.Signed.{non_neg}
use lib.Count.{count_trailing_zeros}
use lib.Ieee.{fin, binary64, minus, odd, of_bits, nan_bits, is_nan}
use lib.Ieee.Bits.{nan_bits_is}
use mir.ValLaws.{to_z-of_z}
use borrow.Author.Tests.{lt-leb}
use Rattle.exact.proofs.Linear.{given, spread, parts}
use Rattle.posit.specs.Parts.{HighestBit}
use Rattle.posit.specs.SmallForm.{SmallForm}
use Rattle.posit.proofs.SetBits.{trailing, odd_quotient, highest_below}
use Rattle.posit.proofs.OneForm.{odd_once}
use Rattle.posit.proofs.SmallScale.{lifted, lifted_is, lifted_most, kept}
use Rattle.posit.proofs.FloatRead.{field, digits, read, normal_read}

-- ---- an odd number moved up is read as that odd number
odd_read : (d : ℕ) (s : Bool) (q g i k l : ℕ) → g % 2 ≡ 1 → q ≡ g * 2 ^ i → q < 2 ^ d → odd d s q k l ≡ fin s g (minus (k + i) l)
unfolding odd
odd_read d s zero g i k l o e h = absurd (lt_irrefl 0 (omega (arith, mul-pos {m = g} {n = 2 ^ i} (omega arith) (pow_pos i))))
odd_read d s (suc q) g i k l o e h =
    let (few, (g', t)) = trailing d (suc q) (omega arith) h in
    let (same, zeros) = odd_once (count_trailing_zeros d (suc q)) i g' g t.odd o (sym t.product ∙ e) in
    rw (odd_quotient t, same, zeros)

-- a difference, and what it is counted from
minus_back : (a l : ℕ) → minus a l +ℤ pos l ≡ pos a
minus_back a l = go (leb l a) (leb→le l a) (nleb→lt l a)
  where
    go : (b : Bool) → (T b → l ≤ a) → (T (not b) → a < l) → cond b (pos (a - l)) (negsuc (l - suc a)) +ℤ pos l ≡ pos a
    go true h k = let u = h tt in simp spread (simp parts (omega arith))
    go false h k = let u = k tt in simp spread (simp parts (omega arith))

minus_is : (a l : ℕ) (s : ℤ) → s +ℤ pos l ≡ pos a → minus a l ≡ s
minus_is a l s e = given e (given (minus_back a l) (simp spread (simp parts (omega arith))))

-- ---- a pattern of three fields
module _ (x t : ℕ) (some : 0 < x) (few : x < 2047) (less : t < 2 ^ 52) where
  pub unsigned_read : of_bits binary64 (x * 2 ^ 52 + t) ≡ odd 53 false (2 ^ 52 + t) (x - 1) 1074
  unsigned_read =
      let b = x * 2 ^ 52 + t in
      let exponent : field b ≡ x = omega arith in
      let fraction : digits b ≡ t = omega arith in
      read b ∙ rw (lt-leb (2 ^ 63) b (omega arith), exponent, fraction) (normal_read false x t some few)

  pub signed_read : of_bits binary64 (2 ^ 63 + (x * 2 ^ 52 + t)) ≡ odd 53 true (2 ^ 52 + t) (x - 1) 1074
  signed_read =
      let b = 2 ^ 63 + (x * 2 ^ 52 + t) in
      let exponent : field b ≡ x = omega arith in
      let fraction : digits b ≡ t = omega arith in
      read b ∙ rw (le-leb (2 ^ 63) b (omega arith), exponent, fraction) (normal_read true x t some few)

-- ---- the exponent as the machine counts it
abbrev biased : ℤ → ℕ
biased s = nat_abs (to_z w32 (of_z w32 (to_z w32 (of_z w32 s) +ℤ pos 1023)))

module _ {s : ℤ} {g : ℕ} (x : SmallForm s g) where
  biased_sum : s +ℤ pos 1023 ≡ pos (lifted s + 967)
  biased_sum = given (lifted_is x) (simp spread (simp parts (omega arith)))

  pub biased_sum_fits : SFits w32 (to_z w32 (of_z w32 s) +ℤ pos 1023)
  biased_sum_fits = rw (kept x, biased_sum) (record { sfits = omega (arith, lifted_most x) })

  sum_kept : to_z w32 (of_z w32 (to_z w32 (of_z w32 s) +ℤ pos 1023)) ≡ pos (lifted s + 967)
  sum_kept = to_z-of_z w32 (to_z w32 (of_z w32 s) +ℤ pos 1023) biased_sum_fits ∙ rw (kept x, biased_sum)

  pub biased_fits : T (non_neg (to_z w32 (of_z w32 (to_z w32 (of_z w32 s) +ℤ pos 1023)))) × Fits w64 (biased s)
  biased_fits = rw sum_kept (tt, record { fits = omega (arith, lifted_most x) })

  biased_is : biased s ≡ lifted s + 967
  biased_is = rw sum_kept

-- ---- the whole pattern
module _ {s : ℤ} {g h : ℕ} (x : SmallForm s g) (top : HighestBit g h) where
  pub highest_few : h ≤ 13
  highest_few = omega (arith, highest_below 14 top x.few)

  pub exponent_most : biased s + h ≤ 1092
  exponent_most = omega (arith, biased_is x, lifted_most x, highest_few)

  moved_up : 2 ^ h * 2 ^ (52 - h) ≡ 2 ^ 52
  moved_up = let e : h + (52 - h) ≡ 52 = omega (arith, highest_few) in sym (pow-add 2 h (52 - h)) ∙ ap (λ (i : ℕ). 2 ^ i) e

  pub leading : 2 ^ 52 ≤ g * 2 ^ (52 - h)
  leading = omega (arith, moved_up, mul-le-mul_right (2 ^ (52 - h)) top.at_least)

  pub no_more : g * 2 ^ (52 - h) < 2 ^ 53
  no_more = omega (arith, moved_up, pow_pos (52 - h), mul-le-mul_right (2 ^ (52 - h)) top.less)

  abbrev size_of : ℕ
  size_of = (biased s + h) * 2 ^ 52 + (g * 2 ^ (52 - h) - 2 ^ 52)

  pub size_fits : size_of < 2 ^ 63
  size_fits = omega (arith, exponent_most, leading, no_more)

  module _ (odd_fraction : g % 2 ≡ 1) where
    digits_read : (negative : Bool) → odd 53 negative (2 ^ 52 + (g * 2 ^ (52 - h) - 2 ^ 52)) (biased s + h - 1) 1074 ≡ fin negative g s
    digits_read negative =
        odd_read 53 negative (2 ^ 52 + (g * 2 ^ (52 - h) - 2 ^ 52)) g (52 - h) (biased s + h - 1) 1074 odd_fraction (omega (arith, leading)) (omega (arith, leading, no_more))
        ∙ ap (fin negative g) (minus_is (biased s + h - 1 + (52 - h)) 1074 s scale_is)
      where
        scale_is : s +ℤ pos 1074 ≡ pos (biased s + h - 1 + (52 - h))
        scale_is =
            let e : biased s + h - 1 + (52 - h) ≡ lifted s + 1018 = omega (arith, biased_is x, highest_few) in
            rw e (given (lifted_is x) (simp spread (simp parts (omega arith))))

    pub positive_made : of_bits binary64 size_of ≡ fin false g s
    positive_made =
        unsigned_read (biased s + h) (g * 2 ^ (52 - h) - 2 ^ 52) (omega (arith, biased_is x)) (omega (arith, exponent_most)) (omega (arith, leading, no_more))
        ∙ digits_read false

    pub negative_made : of_bits binary64 (2 ^ 63 + size_of) ≡ fin true g s
    negative_made =
        signed_read (biased s + h) (g * 2 ^ (52 - h) - 2 ^ 52) (omega (arith, biased_is x)) (omega (arith, exponent_most)) (omega (arith, leading, no_more))
        ∙ digits_read true

-- ---- a number's bits are no NaN's
pub number_bits : (b : ℕ) {s : Bool} {m : ℕ} {e : ℤ} → of_bits binary64 b ≡ fin s m e → T (not (nan_bits binary64 b))
unfolding is_nan
number_bits b h = rw (nan_bits_is binary64 b, h) tt
