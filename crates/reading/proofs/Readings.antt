-- A reading that is not bad has a fraction from low to high, so its exact bounds are its own ends, and the range from the cell of low to the cell of
-- high is its answer.
use mathlib.Core.Path.{◌≡◌, refl, sym, ap, ◌∙◌, subst}
use mathlib.Core.Bool.{Bool, true, false, not, ◌||◌, true≢false}
use mathlib.Core.Logic.{◌↔◌}
use Prim.Native.Nat.{ℕ, ◌-◌, ◌^◌, ◌≤◌}
use native.Mathlib.Omega.{arith}
use lib.Dec.{T}
use lib.IntN.{pos}
use lib.Pow.{pow_pos}
use lib.Ieee.{Float, nan, inf, fin, binary64, lt, fits, is_nan, of_fields, of_bits, to_bits}
use lib.Ieee.Bits.{of_bits-to_bits}
use Rattle.exact.specs.Fraction.{Fraction, whole}
use Rattle.exact.proofs.Order.{≤ᶠ_refl, ≈_sym}
use Rattle.bound.specs.Order.{dual}
use Rattle.bound.specs.Bound.{Bound, none, closed_at, Allows, map_bound}
use Rattle.bound.specs.Extent.{span, Within, from_to, Spans}
use Rattle.bound.specs.Cell.{start_of_bound, end_of_bound}
use Rattle.bound.specs.Fractions.{fractions}
use Rattle.bound.proofs.Extent.{interval_spans, spans_of_same_set}
use Rattle.posit.specs.Format.{Format, is_format}
use Rattle.posit.proofs.Verdicts.{format_clear}
use Rattle.posit.specs.Decoding.{finite_value}
use Rattle.posit.specs.Floats.{IsExactly, NoNumber}
use Rattle.call.specs.Verdict.{Verdict, done}
use Rattle.posit.specs.Refusal.{format_test}
use Rattle.posit.proofs.Operated.{zero_value, zero_not_nar}
use Rattle.posit.proofs.Patterns.{some_bit}
use Rattle.call.proofs.FirstHit.{hits, passes, none_hits}
use Rattle.posit.proofs.Verdicts.{format_of}
use Rattle.std.specs.Prelude.{Result}
use Rattle.call.specs.declared.refusal.Refusal.{Refusal}
use Rattle.call.proofs.Answered as Answered
use Rattle.reading.specs.declared.reading.Reading.{Reading}
use Rattle.word.specs.Smallest.{IsAnswer}
use Rattle.word.specs.Numbered.{count}
use Rattle.word.specs.Spans.{top_cell, Cells, word_at}
use Rattle.word.specs.Computed.{cell_of}
use Rattle.reading.specs.Reading.{FromLow, ToHigh, Between, is_infinity, bad_reading, reading_test, verdict_of_reading, TakenIn, FloatCell}
use Rattle.word.proofs.Grid.{half, nar_positive, number_below}
use Rattle.word.proofs.Places.{top_cell_says}
use Rattle.word.proofs.Computed.{extent_answer}
use Rattle.word.proofs.OneWord.{one_answer}
use Rattle.cell.proofs.CellFrom.{cell_bounded, cell_same, cell_of_posit}
use Rattle.reading.proofs.FloatOrder.{at_most}

-- ---- NaN and the infinities
pub is_no_nan : (x : Float) → is_nan x ≡ false → T (not (is_nan x))
is_no_nan x e = subst (λ (b : Bool). T (not b)) (sym e) tt

abbrev pub infinity_bits : Bool → ℕ
infinity_bits true = 0xfff0_0000_0000_0000
infinity_bits false = 0x7ff0_0000_0000_0000

pub infinity_read : (negative : Bool) → of_bits binary64 (infinity_bits negative) ≡ inf negative
unfolding of_bits of_fields
infinity_read true = refl
infinity_read false = refl

infinity_itself : (negative : Bool) → is_infinity negative (inf negative) ≡ true
infinity_itself true = refl
infinity_itself false = refl

pub is_infinity_says : (negative : Bool) (x : Float) → T (fits binary64 x) → to_bits binary64 x ≡ infinity_bits negative → is_infinity negative x ≡ true
is_infinity_says negative x h e =
    ap (is_infinity negative) (sym (of_bits-to_bits binary64 x h) ∙ ap (of_bits binary64) e ∙ infinity_read negative) ∙ infinity_itself negative

pub is_no_infinity : (negative : Bool) (x : Float) → (to_bits binary64 x ≡ infinity_bits negative → ⊥) → is_infinity negative x ≡ false
unfolding to_bits
is_no_infinity negative nan h = refl
is_no_infinity true (inf true) h = absurd (h refl)
is_no_infinity true (inf false) h = refl
is_no_infinity false (inf true) h = refl
is_no_infinity false (inf false) h = absurd (h refl)
is_no_infinity negative (fin t m e) h = refl

-- ---- the tests of a reading, one after the other
pub hit : {a : Bool} (b : Bool) → a ≡ true → true ≡ (a || b)
hit b e = rw e

pub miss : {a b r : Bool} → a ≡ false → r ≡ b → r ≡ (a || b)
miss e h = rw e h

both_false : (a b : Bool) → (a || b) ≡ false → (a ≡ false) × (b ≡ false)
both_false true b e = absurd (true≢false e)
both_false false b e = (refl, e)

pub record Good (low high : Float) : Type 0 where
  pub low_number : is_nan low ≡ false
  pub high_number : is_nan high ≡ false
  pub low_reached : is_infinity false low ≡ false
  pub high_reached : is_infinity true high ≡ false
  pub in_order : lt high low ≡ false

pub good : (low high : Float) → bad_reading low high ≡ false → Good low high
good low high e =
    let (a, r) = both_false (is_nan low) _ e in
    let (b, s) = both_false (is_nan high) _ r in
    let (c, t) = both_false (is_infinity false low) _ s in
    let (d, f) = both_false (is_infinity true high) (lt high low) t in
    record { low_number = a; high_number = b; low_reached = c; high_reached = d; in_order = f }

module _ (n es : ℕ) (low high : Float) where
  pub reading_outside : is_format n es ≡ false → verdict_of_reading n es low high ≡ record { number = 1; place = 0 }
  unfolding verdict_of_reading
  reading_outside e = hits (format_test n es) _ (ap not e)

  pub reading_bad : Format n es → bad_reading low high ≡ true → verdict_of_reading n es low high ≡ record { number = 6; place = 0 }
  unfolding verdict_of_reading
  reading_bad f b = passes (format_test n es) _ (format_clear f) ∙ hits (reading_test low high) _ b

  pub reading_done : Format n es → bad_reading low high ≡ false → verdict_of_reading n es low high ≡ done
  unfolding verdict_of_reading
  reading_done f b = passes (format_test n es) _ (format_clear f) ∙ passes (reading_test low high) _ b ∙ none_hits

-- the two zeros are in order either way, and an infinity on the wrong side is bad, beside itself too
pub zeros_in_order : (s t : Bool) → bad_reading (fin s 0 (pos 0)) (fin t 0 (pos 0)) ≡ false
unfolding is_nan lt
zeros_in_order true true = refl
zeros_in_order true false = refl
zeros_in_order false true = refl
zeros_in_order false false = refl

pub infinity_beside_itself : (s : Bool) → bad_reading (inf s) (inf s) ≡ true
unfolding is_nan lt
infinity_beside_itself true = refl
infinity_beside_itself false = refl

-- ---- the bounds of a reading
abbrev pub bound_of : Float → Bound Fraction
bound_of nan = none
bound_of (inf s) = none
bound_of (fin t m e) = closed_at (finite_value t e m)

low_allows : (x : Float) → is_nan x ≡ false → is_infinity false x ≡ false → (z : Fraction) → Allows fractions (bound_of x) z ↔ FromLow x z
unfolding is_nan
low_allows nan h k z = absurd (true≢false h)
low_allows (inf true) h k z = (λ a. tt, λ a. tt)
low_allows (inf false) h k z = absurd (true≢false k)
low_allows (fin t m e) h k z = (λ a. a, λ a. a)

high_allows : (x : Float) → is_nan x ≡ false → is_infinity true x ≡ false → (z : Fraction) → Allows (dual fractions) (bound_of x) z ↔ ToHigh x z
unfolding is_nan
high_allows nan h k z = absurd (true≢false h)
high_allows (inf true) h k z = absurd (true≢false k)
high_allows (inf false) h k z = (λ a. tt, λ a. tt)
high_allows (fin t m e) h k z = (λ a. a, λ a. a)

some_fraction : (low high : Float) → lt high low ≡ false → (z : Fraction) × Allows fractions (bound_of low) z × Allows (dual fractions) (bound_of high) z
some_fraction nan nan h = (whole (pos 0), tt, tt)
some_fraction nan (inf s) h = (whole (pos 0), tt, tt)
some_fraction nan (fin t k d) h = (finite_value t d k, tt, ≤ᶠ_refl (finite_value t d k))
some_fraction (inf s) nan h = (whole (pos 0), tt, tt)
some_fraction (inf s) (inf t) h = (whole (pos 0), tt, tt)
some_fraction (inf s) (fin t k d) h = (finite_value t d k, tt, ≤ᶠ_refl (finite_value t d k))
some_fraction (fin s m e) nan h = (finite_value s e m, ≤ᶠ_refl (finite_value s e m), tt)
some_fraction (fin s m e) (inf t) h = (finite_value s e m, ≤ᶠ_refl (finite_value s e m), tt)
some_fraction (fin s m e) (fin t k d) h = (finite_value s e m, ≤ᶠ_refl (finite_value s e m), at_most s m e t k d h)

module _ {low high : Float} (g : Good low high) where
  reading_within : (z : Fraction) → Within fractions (span (bound_of low) (bound_of high)) z ↔ Between low high z
  reading_within z = (
    λ w. elim w [ from_to a b ↦ record { from_low = (low_allows low g.low_number g.low_reached z).0 a; to_high = (high_allows high g.high_number g.high_reached z).0 b } ],
    λ b. from_to ((low_allows low g.low_number g.low_reached z).1 b.from_low) ((high_allows high g.high_number g.high_reached z).1 b.to_high),
  )

  pub reading_spans : Spans fractions (Between low high) (span (bound_of low) (bound_of high))
  reading_spans =
      let (z, a, b) = some_fraction low high g.in_order in
      spans_of_same_set fractions reading_within (interval_spans fractions (from_to a b))

-- ---- the cell of a float
module _ (n es : ℕ) (wide : 3 ≤ n) where
  zero_cell_says : cell_of n es (whole (pos 0)) ≡ 2 ^ n - 1
  zero_cell_says =
      cell_of_posit n es wide (record { fits = pow_pos n; not_nar = zero_not_nar n refl }) (≈_sym (zero_value n es refl))
      ∙ omega (arith, number_below n (some_bit n wide) (nar_positive n (some_bit n wide)), half n (some_bit n wide), nar_positive n (some_bit n wide))

  pub no_number_cell : (x : Float) (unbounded c : ℕ) → NoNumber x → c ≡ unbounded → FloatCell n es unbounded x c
  no_number_cell nan unbounded c h e = e
  no_number_cell (inf s) unbounded c h e = e
  no_number_cell (fin t m e) unbounded c h r = absurd h

  pub number_cell : (x : Float) (unbounded c : ℕ) (z : Fraction) → IsExactly x z → c ≡ cell_of n es z → FloatCell n es unbounded x c
  number_cell nan unbounded c z h r = absurd h
  number_cell (inf s) unbounded c z h r = absurd h
  number_cell (fin t m e) unbounded c z h r = r ∙ sym (cell_same n es wide h)

  pub nothing_cell : (x : Float) (unbounded all : ℕ) → IsExactly x (whole (pos 0)) → all ≡ 2 ^ n → FloatCell n es unbounded x (all - 1)
  nothing_cell x unbounded all h e = number_cell x unbounded (all - 1) (whole (pos 0)) h (ap (λ (a : ℕ). a - 1) e ∙ sym zero_cell_says)

  float_cell_fits : (x : Float) (unbounded c : ℕ) → unbounded ≤ top_cell n → FloatCell n es unbounded x c → c ≤ top_cell n
  float_cell_fits nan unbounded c l h = omega arith
  float_cell_fits (inf s) unbounded c l h = omega arith
  float_cell_fits (fin t m e) unbounded c l h = omega (arith, h, cell_bounded n es wide (finite_value t e m))

  -- ---- the word of a reading
  low_is : (x : Float) (c : ℕ) → FloatCell n es 0 x c → c ≡ start_of_bound (map_bound (cell_of n es) (bound_of x))
  low_is nan c h = h
  low_is (inf s) c h = h
  low_is (fin t m e) c h = h

  high_is : (x : Float) (c : ℕ) → FloatCell n es (top_cell n) x c → c ≡ end_of_bound (count n) (map_bound (cell_of n es) (bound_of x))
  high_is nan c h = h ∙ top_cell_says n wide
  high_is (inf s) c h = h ∙ top_cell_says n wide
  high_is (fin t m e) c h = h

  module _ (low high : Float) (lo hi top : ℕ) (l : FloatCell n es 0 low lo) (h : FloatCell n es top high hi) (is_top : top ≡ top_cell n) where
    high_to_top : FloatCell n es (top_cell n) high hi
    high_to_top = subst (λ (u : ℕ). FloatCell n es u high hi) is_top h

    pub reading_cells : Cells n (record { lo = lo; hi = hi })
    reading_cells =
        let i : lo ≤ top_cell n = float_cell_fits low 0 lo (omega arith) l in
        let j : hi ≤ top_cell n = float_cell_fits high (top_cell n) hi (omega arith) high_to_top in
        record { low_there = omega arith; high_there = j }

    pub reading_answer : bad_reading low high ≡ false → {w : ℕ} → w ≡ word_at n (record { lo = lo; hi = hi }) → IsAnswer n es (Between low high) w
    reading_answer b e =
        subst (IsAnswer n es (Between low high)) (sym (e ∙ same)) (extent_answer n es wide (reading_spans (good low high b)))
      where
        same : word_at n (record { lo = lo; hi = hi })
            ≡ word_at n (record { lo = start_of_bound (map_bound (cell_of n es) (bound_of low)); hi = end_of_bound (count n) (map_bound (cell_of n es) (bound_of high)) })
        same = rw (low_is low lo l, high_is high hi high_to_top)

-- ---- a reading has one answer
module _ (n es : ℕ) (x : Reading) where
  done_wide : (verdict_of_reading n es x.low x.high).number ≡ 0 → 3 ≤ n
  done_wide z = by (is_format n es) refl
    where
      by : (b : Bool) → is_format n es ≡ b → 3 ≤ n
      by true e = (format_of {es = es} e).wide_enough
      by false e = absurd (omega (arith, ap (λ (v : Verdict). v.number) (reading_outside n es x.low x.high e)))

  pub one_word_taken_in : (r q : Result ℕ Refusal) → TakenIn n es x r → TakenIn n es x q → r ≡ q
  one_word_taken_in =
      Answered.one_answer (verdict_of_reading n es x.low x.high) (IsAnswer n es (Between x.low x.high))
      (λ passed v w h k. one_answer n es (done_wide (Answered.accepts passed)) h k)
