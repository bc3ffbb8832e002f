-- The cell of an exact number above 0 from its step among the posits, or from its floor among the patterns one bit longer: half of either is the posit
-- at or below the number, and the number is that posit itself exactly where the step is even, or the floor is even and met.
use mathlib.Core.Path.{◌≡◌, refl, sym, ap, ◌∙◌}
use mathlib.Core.Bool.{Bool, true, false, not, ◌&&◌}
use mathlib.Core.Logic.{◌⊎◌, inl, inr}
use Prim.Native.Nat.{ℕ, suc, ◌+◌, ◌-◌, ◌*◌, ◌/◌, ◌%◌, ◌^◌, ◌≤◌, ◌<◌}
use native.Mathlib.Nat.{mod-lt}
use native.Mathlib.Omega.{arith}
use lib.Pow.{pow_pos}
use mir.Val.{bool_byte}
use Rattle.exact.specs.Fraction.{Fraction, ◌<ᶠ◌, ◌≈◌, negᶠ}
use Rattle.exact.proofs.Order.{≤ᶠ_refl, ≈_trans, ≈_sym, <ᶠ_≈, ≈_<ᶠ, <ᶠ_≤ᶠ_trans, ≤ᶠ_<ᶠ_trans, clashᶠ}
use Rattle.exact.proofs.Powers.{parity}
use Rattle.bound.specs.Order.{Less, Same}
use Rattle.bound.specs.Fractions.{fractions, signed_fractions, same_of_≈}
use Rattle.bound.proofs.Cell.{value_cell, value_order, same_cell, gap_cell}
use Rattle.bound.proofs.NegateRange.{cell_of_neg}
use Rattle.posit.specs.declared.inner.magnitude.Magnitude.{Magnitude}
use Rattle.posit.specs.Format.{Format, nar, max_pos, Finite}
use Rattle.posit.specs.Value.{value}
use Rattle.posit.specs.Locating.{IsFloor, Locates, given}
use Rattle.posit.specs.Parts.{chosen_by}
use Rattle.posit.specs.Magnitudes.{with_signᶠ}
use Rattle.posit.proofs.Patterns.{some_bit, two_bits, nar_large, small_finite, increasing}
use Rattle.posit.proofs.Mirror.{nar_is_half, power_wider}
use Rattle.posit.proofs.Wider.{value_wider}
use Rattle.posit.proofs.Floor.{Floor}
use Rattle.posit.proofs.Located.{floor_cut}
use Rattle.posit.proofs.RoundKnown.{by_mark, pattern_fits}
use Rattle.posit.proofs.Exactly.{next_given, never}
use Rattle.code.specs.Step.{IsStep}
use Rattle.word.specs.Numbered.{count, number_of, value_at}
use Rattle.word.specs.Spans.{top_cell}
use Rattle.word.specs.Computed.{cell_of}
use Rattle.cell.specs.Cells.{CellEach, cell_from, cell_with_sign}
use Rattle.word.proofs.Grid.{posits, half, number_below, number_fits, value_of_number, mirrored_value}
use Rattle.word.proofs.Places.{top_cell_says}
use Rattle.word.proofs.Tiles.{half_small}
use Rattle.word.proofs.Computed.{cell_computed, cell_of_fraction, cell_of_is}

-- ---- the cells of equal numbers, of a posit and of negatives
module _ (n es : ℕ) (wide : 3 ≤ n) where
  pub cell_bounded : (x : Fraction) → cell_of n es x ≤ top_cell n
  cell_bounded x = omega (arith, (cell_of_fraction n es wide x).bounded, top_cell_says n wide)

  pub cell_same : {x y : Fraction} → x ≈ y → cell_of n es x ≡ cell_of n es y
  cell_same {x} {y} e = cell_of_is n es wide (same_cell (posits n es wide) (cell_of_fraction n es wide y) (same_of_≈ (≈_sym e)))

  pub cell_of_posit : {p : ℕ} → Finite n p → {x : Fraction} → x ≈ value n es p → cell_of n es x ≡ 2 * number_of n p + 1
  cell_of_posit {p} f {x} e =
      cell_of_is n es wide
      (same_cell (posits n es wide) (value_cell (posits n es wide) (number_of n p) (number_fits n (some_bit n wide) f))
      (rw (value_of_number n es (some_bit n wide) f) (same_of_≈ (≈_sym e))))

  odd : (k : ℕ) → k < count n → Same fractions (negᶠ (value_at n es k)) (value_at n es (count n - suc k))
  odd k h = rw (mirrored_value n es (some_bit n wide) h) (fractions.reflexive (negᶠ (value_at n es k)), fractions.reflexive (negᶠ (value_at n es k)))

  pub cell_negated : (x : Fraction) → cell_of n es (negᶠ x) ≡ top_cell n - cell_of n es x
  cell_negated x =
      cell_computed n es wide (negᶠ x) ∙ cell_of_neg signed_fractions (posits n es wide) odd x
      ∙ omega (arith, cell_computed n es wide x, top_cell_says n wide)

  pub cell_with_sign_says : (negative : Bool) (x : Fraction) → cell_with_sign n negative (cell_of n es x) ≡ cell_of n es (with_signᶠ negative x)
  cell_with_sign_says true x = sym (cell_negated x)
  cell_with_sign_says false x = refl

-- ---- which cell
pub from_odd : (n L : ℕ) (exact : Bool) → L % 2 ≡ 1 → cell_from n L exact ≡ 2 ^ n - 1 + L
from_odd n L exact e = rw e (omega arith)

pub from_met : (n L : ℕ) → L % 2 ≡ 0 → cell_from n L true ≡ 2 ^ n - 1 + L
from_met n L e = rw e (omega arith)

pub from_missed : (n L : ℕ) → L % 2 ≡ 0 → cell_from n L false ≡ 2 ^ n - 1 + L + 1
from_missed n L e = rw e

module _ (n es : ℕ) (wide : 3 ≤ n) {x : Fraction} {q : ℕ} (f : Floor n es x (max_pos n) q) where
  one : 1 ≤ n
  one = some_bit n wide

  there : q < nar n
  there = omega (arith, f.at_most, nar_large n wide)

  finite : Finite n q
  finite = small_finite n wide f.at_most

  -- the number is the posit
  cell_on : x ≈ value n es q → cell_of n es x ≡ 2 ^ n - 1 + 2 * q
  cell_on e = cell_of_posit n es wide finite e ∙ omega (arith, number_below n one there, half n one, nar_large n wide)

  -- the number lies in the gap above it
  cell_above : value n es q <ᶠ x → cell_of n es x ≡ 2 ^ n + 2 * q
  cell_above more =
      cell_of_is n es wide
      (gap_cell (posits n es wide) (q + nar n) (omega (arith, half n one, there)) low high)
      ∙ omega (arith, half n one)
    where
      number : number_of n q + 1 ≡ q + nar n
      number = omega (arith, number_below n one there, nar_large n wide)

      low : (j : ℕ) → j < q + nar n → Less fractions (value_at n es j) x
      low j h =
          clashᶠ
          (≤ᶠ_<ᶠ_trans
          (rw (value_of_number n es one finite) at ((value_order (posits n es wide) j (number_of n q) (omega (arith, number, half n one, there)) (omega (arith, number, half n one, there))).1 (omega (arith, number))))
          more)

      high : (j : ℕ) → q + nar n ≤ j → j < count n → Less fractions x (value_at n es j)
      high j h u =
          let g : Finite n (q + 1) = small_finite n wide (omega (arith, half n one, nar_large n wide)) in
          let i : number_of n (q + 1) ≡ q + nar n = number_below n one {p = q + 1} (omega (arith, half n one)) ∙ omega (arith, nar_large n wide) in
          clashᶠ
          (<ᶠ_≤ᶠ_trans (f.not_next (omega (arith, half n one, nar_large n wide)))
          (rw (value_of_number n es one g) at ((value_order (posits n es wide) (number_of n (q + 1)) j (omega (arith, i, half n one)) u).1 (omega (arith, i)))))

-- ---- from a step
module _ {n es : ℕ} (wide : 3 ≤ n) {x : Fraction} {r : ℕ} (s : IsStep n es x r) where
  step_floor : Floor n es x (max_pos n) (r / 2)
  step_floor = record { at_most = omega (arith, s.floor.fits); reached = s.floor.at_most; not_next = λ h. s.floor.next_above (omega arith) }

  pub step_fits : r < 2 ^ n
  step_fits = omega (arith, s.floor.fits, nar_is_half n (some_bit n wide))

  pub cell_of_step : cell_of n es x ≡ 2 ^ n - 1 + r
  cell_of_step = by (parity r)
    where
      by : (r % 2 ≡ 0) ⊎ (r % 2 ≡ 1) → cell_of n es x ≡ 2 ^ n - 1 + r
      by (inl e) = cell_on n es wide step_floor (s.on_it e) ∙ omega arith
      by (inr e) = cell_above n es wide step_floor (s.beyond e) ∙ omega (arith, pow_pos n)

-- ---- from the floor among the patterns one bit longer
module _ (n es : ℕ) (wide : 3 ≤ n) {x : Fraction} {L : ℕ} (f : IsFloor (n + 1) es x L) where
  cut : Floor n es x (max_pos n) (L / 2)
  cut = floor_cut n es wide (record { at_most = omega (arith, f.fits); reached = f.at_most; not_next = λ h. f.next_above (omega arith) })

  half_finite : Finite n (L / 2)
  half_finite = small_finite n wide cut.at_most

  on_posit : L % 2 ≡ 0 → x ≈ value (n + 1) es L → cell_of n es x ≡ 2 ^ n - 1 + L
  on_posit e s =
      let d : 2 * (L / 2) ≡ L = omega arith in
      let v : value (n + 1) es L ≈ value n es (L / 2) = rw d at (value_wider n es (L / 2) (two_bits n wide) half_finite) in
      cell_on n es wide cut (≈_trans s v) ∙ ap (λ (k : ℕ). 2 ^ n - 1 + k) d

  above_odd : L % 2 ≡ 1 → value n es (L / 2) <ᶠ x
  above_odd e =
      let s : 2 * (L / 2) < L = omega arith in
      ≈_<ᶠ (≈_sym (value_wider n es (L / 2) (two_bits n wide) half_finite))
      (<ᶠ_≤ᶠ_trans (increasing (n + 1) es (omega arith) s (omega (arith, f.fits))) f.at_most)

  above_missed : L % 2 ≡ 0 → value (n + 1) es L <ᶠ x → value n es (L / 2) <ᶠ x
  above_missed e h =
      let d : 2 * (L / 2) ≡ L = omega arith in
      ≈_<ᶠ (≈_sym (value_wider n es (L / 2) (two_bits n wide) half_finite)) (rw d h)

  pub cell_from_floor : {exact : Bool} → (exact ≡ true → x ≈ value (n + 1) es L) → (exact ≡ false → value (n + 1) es L <ᶠ x) → cell_from n L exact ≡ cell_of n es x
  cell_from_floor {exact} hit miss = by exact refl (parity L)
    where
      by : (b : Bool) → exact ≡ b → (L % 2 ≡ 0) ⊎ (L % 2 ≡ 1) → cell_from n L exact ≡ cell_of n es x
      by b e (inr o) = from_odd n L exact o ∙ omega (arith, cell_above n es wide cut (above_odd o), pow_pos n)
      by true e (inl z) = rw e (from_met n L z ∙ sym (on_posit z (hit e)))
      by false e (inl z) = rw e (from_missed n L z ∙ omega (arith, cell_above n es wide cut (above_missed z (miss e)), pow_pos n))

-- ---- the cell of a known magnitude
module _ {n es : ℕ} (f : Format n es) (x : Magnitude) {L : ℕ} {exact : Bool} (l : Locates n es x.g x.s x.a L exact) where
  wide : 3 ≤ n
  wide = f.wide_enough

  abbrev low : Fraction
  low = given x.g x.s x.a

  lost_each : (negative : Bool) {p r : ℕ} → x.lost ≡ true → p ≡ cell_from n L false → r ≡ cell_with_sign n negative p → CellEach n es negative x r
  lost_each negative h i j z k =
      let s : cell_from n L false ≡ cell_of n es z =
      cell_from_floor n es wide (l.floor z k.at_least k.less) (λ e. never e) (λ e. ≤ᶠ_<ᶠ_trans (l.floor low (≤ᶠ_refl low) (next_given x.g x.s x.a)).at_most (k.more_than_it h)) in
      j ∙ ap (cell_with_sign n negative) (i ∙ s) ∙ cell_with_sign_says n es wide negative z

  kept_each : (negative : Bool) {p r : ℕ} → x.lost ≡ false → p ≡ cell_from n L exact → r ≡ cell_with_sign n negative p → CellEach n es negative x r
  kept_each negative h i j z k =
      let s : cell_from n L exact ≡ cell_of n es z =
      cell_from_floor n es wide (l.floor z k.at_least k.less) (λ e. ≈_trans (k.whole_of_it h) (l.hit e)) (λ e. <ᶠ_≈ (l.miss e) (≈_sym (k.whole_of_it h))) in
      j ∙ ap (cell_with_sign n negative) (i ∙ s) ∙ cell_with_sign_says n es wide negative z

  -- something lost is a number that is not met
  pub found_each : (negative : Bool) {p r : ℕ} → p ≡ cell_from n L (exact && not x.lost) → r ≡ cell_with_sign n negative p → CellEach n es negative x r
  found_each negative {p} {r} =
      by_mark exact x.lost (λ (b : Bool). p ≡ cell_from n L b → r ≡ cell_with_sign n negative p → CellEach n es negative x r) (lost_each negative) (kept_each negative)

-- ---- bounds of the machine's numbers
even_gap : (q k : ℕ) {L all : ℕ} → L ≡ 2 * q → all ≡ 2 * k → L < all → L + 2 ≤ all
even_gap q k d e h = omega arith

pub from_fits : {n L : ℕ} → 3 ≤ n → (exact : Bool) → L < 2 ^ n → cell_from n L exact ≤ top_cell n
from_fits {n} {L} w exact h = by exact (parity L)
  where
    by : (b : Bool) → (L % 2 ≡ 0) ⊎ (L % 2 ≡ 1) → cell_from n L b ≤ top_cell n
    by b (inr o) = omega (arith, from_odd n L b o, power_wider n)
    by true (inl z) = omega (arith, from_met n L z, power_wider n)
    by false (inl z) = omega (arith, from_missed n L z, power_wider n, even_gap (L / 2) (nar n) (omega arith) (nar_is_half n (some_bit n w)) h)

pub from_fits_as : {n es : ℕ} → Format n es → (x : Magnitude) → {L : ℕ} {exact : Bool} → Locates n es x.g x.s x.a L exact
    → (b : Bool) {p : ℕ} → p ≡ cell_from n L b → p ≤ top_cell n
from_fits_as f x l b e = rw e (from_fits f.wide_enough b (pattern_fits f x l))

-- ---- the machine's marks
pub mark_fits : (b : Bool) → bool_byte b ≤ 1
mark_fits true = omega arith
mark_fits false = omega arith

pub gap_fits : (L : ℕ) (exact : Bool) → (1 - L % 2) * (1 - bool_byte exact) ≤ 1
gap_fits L true = omega arith
gap_fits L false = omega arith

pub gives_cell : (n L : ℕ) (exact : Bool) {all : ℕ} → all ≡ 2 ^ n → all - 1 + L + (1 - L % 2) * (1 - bool_byte exact) ≡ cell_from n L exact
gives_cell n L exact {all} e = by exact (parity L)
  where
    by : (b : Bool) → (L % 2 ≡ 0) ⊎ (L % 2 ≡ 1) → all - 1 + L + (1 - L % 2) * (1 - bool_byte b) ≡ cell_from n L b
    by true (inl z) = omega (arith, from_met n L z)
    by false (inl z) = omega (arith, from_missed n L z)
    by true (inr o) = omega (arith, from_odd n L true o)
    by false (inr o) = omega (arith, from_odd n L false o)

pub gives_sign : (n c : ℕ) (negative : Bool) {top r : ℕ} → top ≡ top_cell n → r ≡ chosen_by (bool_byte negative) c (top - c) → r ≡ cell_with_sign n negative c
gives_sign n c true e h = h ∙ ap (λ (t : ℕ). t - c) e
gives_sign n c false e h = h

-- ---- the posit beside a cell
pub posit_fits : {n half : ℕ} (k : ℕ) → 3 ≤ n → n ≤ 16 → 2 * k ≤ top_cell n → half ≡ 2 ^ (n - 1) → k + half + 1 < 2 ^ 32
posit_fits {n} k w h l e = omega (arith, power_wider n, nar_is_half n (some_bit n w), half_small h)

pub number_small : {n all : ℕ} (x : ℕ) → n ≤ 16 → all ≡ 2 ^ n → x % all < 65536
number_small {n} {all} x h e = omega (arith, mod-lt x {m = all} (omega (arith, pow_pos n)), half_small h)
