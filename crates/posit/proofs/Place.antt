-- Where g · 2^s / 2^a lies among the patterns of n bits: the scale of its highest bit gives the run, what is left of it and the lower bits
-- give the tail, and the tail's growth, cut to size, compares with that of the whole (`Widths`).
use Rattle.std.proofs.Common.{◌≡◌, ℕ, suc, ◌+◌, ◌-◌, ◌*◌, ◌/◌, ◌%◌, ◌^◌, ◌<◌, ◌≤◌, ◌≢◌, sym, ap, ◌∙◌, mul-le-mul_right, mod-lt, mul-le-mul_left, mul-lt-mul_of_pos_right, mul-pos, arith, pow_pos, pow-add, shr_lt}
use native.Mathlib.Nat.{lt_of_mul-lt-mul_left, eq_of_mul-eq-mul_left, mul-lt-mul_of_pos_left, le_of_mul-le-mul_left}
use lib.Arith.{digits_lt}
use Rattle.exact.proofs.Powers.{pow_split}
use lib.Pow.{split, high}
use Rattle.posit.proofs.Growth.{G, g_at, g_suc}
use Rattle.posit.proofs.Widths.{g_lt, g_same, g_le}

-- ---- a multiple M of minPos and a number g, each by its growth, A and B: they compare as these do
module _ (M g S Pa Pw Ph Q A B E : ℕ) (above : 0 < Pw * Ph) (weight : 0 < Q * Pa) (e : M * Pw ≡ Q * A) (f : B ≡ E * g) (i : Q * E * Pa ≡ S * Ph) where
  by_growth : Pw * Ph * (M * Pa) ≡ Q * Pa * (A * Ph)
  by_growth = omega (arith, ap (λ (z : ℕ). Pa * Ph * z) e)

  by_scale : Pw * Ph * (g * S) ≡ Q * Pa * (B * Pw)
  by_scale = rw f (omega (arith, ap (λ (z : ℕ). Pw * g * z) i))

  grows_less : A * Ph < B * Pw → M * Pa < g * S
  grows_less l = lt_of_mul-lt-mul_left (Pw * Ph) (rw (by_growth, by_scale) (mul-lt-mul_of_pos_left l weight))

  grows_same : A * Ph ≡ B * Pw → M * Pa ≡ g * S
  grows_same l = eq_of_mul-eq-mul_left (Pw * Ph) above (M * Pa) (g * S) (by_growth ∙ ap (λ (z : ℕ). Q * Pa * z) l ∙ sym by_scale)

  grows_more : B * Pw ≤ A * Ph → g * S ≤ M * Pa
  grows_more l = le_of_mul-le-mul_left {k = Pw * Ph} (rw (by_growth, by_scale) (mul-le-mul_left (Q * Pa) l)) above

-- exponent e and the bits of g below its highest, as one number; cut to w bits, from es more than the h below the highest
abbrev pub behind : ℕ → ℕ → ℕ → ℕ
behind h e g = e * 2 ^ h + (g - 2 ^ h)

abbrev pub unit_of : ℕ → ℕ → ℕ → ℕ
unit_of es h w = 2 ^ (h + es - w)

-- ---- the tail
module _ (es h w q e g : ℕ) (at_least : 2 ^ h ≤ g) (less : g < 2 * 2 ^ h) (low : e < 2 ^ es) (room : w ≤ h + es) where
  abbrev whole : ℕ
  whole = behind h e g

  abbrev unit : ℕ
  unit = unit_of es h w

  abbrev tail : ℕ
  tail = whole / unit

  pub whole_fits : whole < 2 ^ (h + es)
  whole_fits = rw (pow-add 2 h es) (omega (arith, digits_lt {q = e} {m = 2 ^ es} {r = g - 2 ^ h} {c = 2 ^ h} low (omega arith)))

  pub tail_fits : tail < 2 ^ w
  tail_fits = let s : w + (h + es - w) ≡ h + es = omega arith in shr_lt w (h + es - w) (rw s whole_fits)

  width : 2 ^ h * 2 ^ es ≡ unit * 2 ^ w
  width = sym (pow-add 2 h es) ∙ pow_split room

  reach : tail * 2 ^ es * 2 ^ h ≡ tail * unit * 2 ^ w
  reach = omega (arith, ap (λ (z : ℕ). tail * z) width)

  exact_reach : whole % unit ≡ 0 → tail * 2 ^ es * 2 ^ h ≡ whole * 2 ^ w
  exact_reach z = reach ∙ ap (λ (k : ℕ). k * 2 ^ w) (omega (arith, split whole (h + es - w)))

  short_reach : whole % unit ≢ 0 → tail * 2 ^ es * 2 ^ h < whole * 2 ^ w
  short_reach z = rw reach (mul-lt-mul_of_pos_right {m = tail * unit} {n = whole} (omega (arith, split whole (h + es - w))) (pow_pos w))

  next_reach : suc whole * 2 ^ w ≤ suc tail * 2 ^ es * 2 ^ h
  next_reach =
      let l : suc whole ≤ suc tail * unit = omega (arith, split whole (h + es - w), mod-lt whole (pow_pos (h + es - w))) in
      omega (arith, mul-le-mul_right (2 ^ w) l, ap (λ (z : ℕ). suc tail * z) width)

  -- ---- the growth of the whole
  growth : G h whole ≡ 2 ^ e * g
  growth = g_at h e {r = g - 2 ^ h} (omega arith) ∙ ap (λ (z : ℕ). 2 ^ e * z) (omega arith)

  next_growth : G h (suc whole) ≡ 2 ^ e * suc g
  next_growth = g_suc h whole ∙ rw (growth, high e h {lo = g - 2 ^ h} (omega arith)) (omega arith)

  -- ---- so the number lies from the multiple of a pattern with this tail to that of the next
  module _ (s a c : ℕ) (scale : q * 2 ^ es + e + a ≡ s + h + c) where
    scaled : 2 ^ (q * 2 ^ es) * 2 ^ e * 2 ^ a ≡ 2 ^ (s + c) * 2 ^ h
    scaled =
        rw (← pow-add 2 (q * 2 ^ es) e, ← pow-add 2 (q * 2 ^ es + e) a, ← pow-add 2 (s + c) h) (ap (λ (k : ℕ). 2 ^ k) (omega arith))

    module _ (M N : ℕ) (here : M * 2 ^ w ≡ 2 ^ (q * 2 ^ es) * G w (tail * 2 ^ es)) (there : N * 2 ^ w ≡ 2 ^ (q * 2 ^ es) * G w (suc tail * 2 ^ es)) where
      above : 0 < 2 ^ w * 2 ^ h
      above = mul-pos (pow_pos w) (pow_pos h)

      weight : 0 < 2 ^ (q * 2 ^ es) * 2 ^ a
      weight = mul-pos (pow_pos (q * 2 ^ es)) (pow_pos a)

      pub hits : whole % unit ≡ 0 → M * 2 ^ a ≡ g * 2 ^ (s + c)
      hits z =
          grows_same M g (2 ^ (s + c)) (2 ^ a) (2 ^ w) (2 ^ h) (2 ^ (q * 2 ^ es)) (G w (tail * 2 ^ es)) (G h whole) (2 ^ e) above weight here growth scaled
          (g_same w (tail * 2 ^ es) h whole (exact_reach z))

      pub misses : whole % unit ≢ 0 → M * 2 ^ a < g * 2 ^ (s + c)
      misses z =
          grows_less M g (2 ^ (s + c)) (2 ^ a) (2 ^ w) (2 ^ h) (2 ^ (q * 2 ^ es)) (G w (tail * 2 ^ es)) (G h whole) (2 ^ e) above weight here growth scaled
          (g_lt w (tail * 2 ^ es) h whole (short_reach z))

      pub next_above : suc g * 2 ^ (s + c) ≤ N * 2 ^ a
      next_above =
          grows_more N (suc g) (2 ^ (s + c)) (2 ^ a) (2 ^ w) (2 ^ h) (2 ^ (q * 2 ^ es)) (G w (suc tail * 2 ^ es)) (G h (suc whole)) (2 ^ e) above weight there
          next_growth scaled (g_le h (suc whole) w (suc tail * 2 ^ es) next_reach)
