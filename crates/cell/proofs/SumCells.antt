-- The outermost cells of all sums: beside no bound there is none, and the sum of two bounds is the sum of the posits they stand on, closed where both
-- are; its cell is that of the exact sum.
use mathlib.Core.Path.{◌≡◌, refl, sym, ap, ◌∙◌, subst}
use mathlib.Core.Bool.{Bool, true, false}
use mathlib.Core.Logic.{◌⊎◌, inl, inr}
use Prim.Native.Nat.{ℕ, zero, suc, ◌+◌, ◌-◌, ◌*◌, ◌/◌, ◌%◌, ◌^◌, ◌≤◌, ◌<◌}
use native.Mathlib.Omega.{arith}
use lib.Dec.{leb}
use lib.IntN.{pos}
use mir.Val.{bool_byte}
use borrow.Author.Tests.{le-leb, lt-leb}
use Rattle.exact.specs.Fraction.{Fraction, ◌≈◌, whole, ◌+ᶠ◌}
use Rattle.exact.proofs.Order.{≈_refl, ◌⨾◌}
use Rattle.exact.proofs.Sum.{+ᶠ_cong, +ᶠ_idl, +ᶠ_idr, negᶠ_cong}
use Rattle.exact.proofs.Powers.{parity}
use Rattle.bound.specs.Bound.{Bound, none, closed_at, open_at, map_bound}
use Rattle.bound.specs.Operation.{both}
use Rattle.bound.specs.Cell.{start_of_bound, end_of_bound}
use Rattle.bound.specs.End.{read_start, read_end}
use Rattle.posit.specs.Format as Spec
use Rattle.posit.specs.Format.{Format}
use Rattle.posit.specs.Parts.{chosen_by}
use Rattle.posit.specs.Value.{value, multiple}
use Rattle.posit.specs.Magnitudes.{with_signᶠ}
use Rattle.posit.proofs.Patterns.{some_bit}
use Rattle.posit.proofs.Operated.{zero_value}
use Rattle.posit.proofs.Summed.{sign_twice}
use Rattle.posit.proofs.Mirror.{nar_is_half, power_wider, Side, below, above, side, negated_positive, units_below, units_above, value_above}
use Rattle.std.specs.Prelude.{Option, Some, None}
use Rattle.code.specs.Code.{code_value, CodeOf}
use Rattle.code.specs.Coded.{Codes, IsSignedSum}
use Rattle.code.specs.Step.{StepOf}
use Rattle.code.proofs.Summed.{none_over}
use Rattle.posit.specs.declared.inner.signed.Signed.{Signed}
use Rattle.word.specs.Numbered.{count, pattern_at, number_of, value_at}
use Rattle.word.specs.Spans.{top_cell}
use Rattle.word.specs.Computed.{cell_of}
use Rattle.cell.specs.Cells.{cell_with_sign, SignedOf, sum_start, sum_end}
use Rattle.word.proofs.Grid.{pattern_finite}
use Rattle.word.proofs.Places.{top_cell_says}
use Rattle.word.proofs.Tiles.{half_small}
use Rattle.cell.proofs.CellFrom.{cell_bounded, cell_same, cell_of_posit, cell_with_sign_says}
use Rattle.cell.proofs.ResultCell.{known_fits, known_cell}
use Rattle.cell.proofs.ZeroCell.{cell_of_nought}

-- ---- a posit with its sign apart
module _ {n es p half turned : ℕ} (f : Format n es) (g : Spec.Finite n p) (more : 0 < p) (is_half : half ≡ Spec.nar n) (is_turned : turned ≡ Spec.negated n p) where
  abbrev size : ℕ
  size = chosen_by (bool_byte (leb half p)) p turned

  positive : p < Spec.nar n → size ≡ p
  positive h = rw (lt-leb half p (omega arith))

  negative : Spec.nar n < p → size ≡ Spec.negated n p
  negative h = rw (le-leb half p (omega arith)) is_turned

  turned_fits : Spec.nar n < p → (0 < Spec.negated n p) × (Spec.negated n p < Spec.nar n)
  turned_fits h =
      let e = negated_positive n {p = p} more g.fits in
      (omega (arith, e, g.fits), omega (arith, e, nar_is_half n (some_bit n f.wide_enough)))

  pub size_fits : {m : ℕ} → m ≡ size → (0 < m) × (m < Spec.nar n)
  size_fits {m} e = by (side g)
    where
      by : Side n p → (0 < m) × (m < Spec.nar n)
      by (below h) = rw (e ∙ positive h) (more, h)
      by (above h u) = rw (e ∙ negative h) (turned_fits h)

  pub signed_of : {m x : ℕ} → m ≡ size → CodeOf n es m x → SignedOf n es p (record { negative = leb half p; size = x })
  signed_of {m} {x} e k = record { code = k.code; says = by (side g) }
    where
      by : Side n p → with_signᶠ (leb half p) (code_value 52 x) ≈ value n es p
      by (below h) = rw (lt-leb half p (omega arith)) (rw (e ∙ positive h) at k.says)
      by (above h u) =
          rw (le-leb half p (omega arith), value_above n es (some_bit n f.wide_enough) h u) (negᶠ_cong (rw (e ∙ negative h) at k.says))

-- ---- posits on either side of 0
module _ {n es : ℕ} (f : Format n es) where
  even : 2 ^ n ≡ 2 * Spec.nar n
  even = nar_is_half n (some_bit n f.wide_enough)

  module _ {p : ℕ} (h : Spec.nar n < p) (u : p < 2 ^ n) where
    pub above_finite : Spec.Finite n p
    above_finite = record { fits = u; not_nar = omega arith }

    pub size_below : {all : ℕ} → all ≡ 2 ^ n → (0 < all - p) × (all - p < Spec.nar n)
    size_below e = (omega arith, omega (arith, even))

    pub across_signed : {all x : ℕ} → all ≡ 2 ^ n → CodeOf n es (all - p) x → SignedOf n es p (record { negative = true; size = x })
    across_signed {all} {x} e k =
        let turned : Spec.negated n p ≡ all - p = negated_positive n {p = p} (omega arith) u ∙ omega arith in
        record { code = k.code; says = rw (value_above n es (some_bit n f.wide_enough) h u, turned) (negᶠ_cong k.says) }

    -- the posit on the other side takes it away
    pub opposite : {q : ℕ} → 2 ^ n - p ≡ q → (value n es p +ᶠ value n es q) ≈ whole (pos 0)
    opposite {q} e =
        let units = multiple (n - 1) es q in
        rw (units_above n es {p = p} h u, e, units_below n es {p = q} (omega (arith, even))) (none_over (Spec.m n es) units units true refl)

pub above_signed : {n es q y : ℕ} → CodeOf n es q y → SignedOf n es q (record { negative = false; size = y })
above_signed k = record { code = k.code; says = k.says }

-- ---- the cell of an exact sum
module _ (n es : ℕ) (wide : 3 ≤ n) where
  pub nothing_cell : (z : Fraction) {r : Option (Signed ℕ)} → IsSignedSum es z r → {all : ℕ} → r ≡ None → all ≡ 2 ^ n → all - 1 ≡ cell_of n es z
  nothing_cell z k e h = omega (arith, cell_of_nought n es wide (subst (λ r. IsSignedSum es z r) e k))

  -- ---- with a 0 the sum is the other posit
  pub zero_left : {p q r : ℕ} → Spec.Finite n q → p ≡ 0 → r ≡ 2 * number_of n q + 1 → r ≡ cell_of n es (value n es p +ᶠ value n es q)
  zero_left {q = q} f e h = h ∙ sym (cell_of_posit n es wide f (+ᶠ_cong (zero_value n es e) (≈_refl (value n es q)) ⨾ +ᶠ_idl (value n es q)))

  pub zero_right : {p q r : ℕ} → Spec.Finite n p → q ≡ 0 → r ≡ 2 * number_of n p + 1 → r ≡ cell_of n es (value n es p +ᶠ value n es q)
  zero_right {p} f e h = h ∙ sym (cell_of_posit n es wide f (+ᶠ_cong (≈_refl (value n es p)) (zero_value n es e) ⨾ +ᶠ_idr (value n es p)))

  pub signed_sum : {p q : ℕ} {x y : Signed ℕ} → SignedOf n es p x → SignedOf n es q y
      → cell_of n es (with_signᶠ x.negative (code_value 52 x.size) +ᶠ with_signᶠ y.negative (code_value 52 y.size)) ≡ cell_of n es (value n es p +ᶠ value n es q)
  signed_sum i j = cell_same n es wide (+ᶠ_cong i.says j.says)

  pub cell_small : (z : Fraction) {c : ℕ} → n ≤ 16 → c ≡ cell_of n es z → c ≤ 131070
  cell_small z h e = omega (arith, cell_bounded n es wide z, power_wider n, half_small h)

module _ {n es : ℕ} (f : Format n es) (z : Fraction) {r : Option (Signed ℕ)} (k : IsSignedSum es z r) {b : Bool} {x : ℕ} (e : r ≡ Some (record { negative = b; size = x })) where
  pub something_known : Codes es (with_signᶠ b z) x
  something_known = subst (λ r. IsSignedSum es z r) e k

  pub something_fits : {step : ℕ} → StepOf n es x step → step < 2 ^ n
  something_fits s = known_fits f something_known s

  pub something_small : {step c : ℕ} → StepOf n es x step → c ≡ 2 ^ n - 1 + step → c ≤ top_cell n
  something_small s h = rw (known_cell f something_known s (≈_refl (with_signᶠ b z)) h) (cell_bounded n es f.wide_enough (with_signᶠ b z))

  pub something_cell : {step c d : ℕ} → StepOf n es x step → c ≡ 2 ^ n - 1 + step → d ≡ cell_with_sign n b c → d ≡ cell_of n es z
  something_cell s h i =
      i ∙ ap (cell_with_sign n b) (known_cell f something_known s (≈_refl (with_signᶠ b z)) h) ∙ cell_with_sign_says n es f.wide_enough b (with_signᶠ b z)
      ∙ cell_same n es f.wide_enough (sign_twice b z)

-- ---- the mark of an open sum: 0 where both ends are closed, else 1
abbrev gap_mark : ℕ → ℕ → ℕ
gap_mark x y = 1 - x % 2 * (y % 2)

mark_by : (x y : ℕ) → ((x % 2 + y % 2 ≡ 2) × (gap_mark x y ≡ 0)) ⊎ ((x % 2 + y % 2 ≡ 2 → ⊥) × (gap_mark x y ≡ 1))
mark_by x y = by (parity x) (parity y)
  where
    by : (x % 2 ≡ 0) ⊎ (x % 2 ≡ 1) → (y % 2 ≡ 0) ⊎ (y % 2 ≡ 1)
        → ((x % 2 + y % 2 ≡ 2) × (gap_mark x y ≡ 0)) ⊎ ((x % 2 + y % 2 ≡ 2 → ⊥) × (gap_mark x y ≡ 1))
    by (inl s) (inl t) = inr (omega arith, rw (s, t) refl)
    by (inl s) (inr t) = inr (omega arith, rw (s, t) refl)
    by (inr s) (inl t) = inr (omega arith, rw (s, t) refl)
    by (inr s) (inr t) = inl (omega arith, rw (s, t) refl)

pub marks_small : (x y : ℕ) → x % 2 * (y % 2) ≤ 1
marks_small x y = by (parity x) (parity y)
  where
    by : (x % 2 ≡ 0) ⊎ (x % 2 ≡ 1) → (y % 2 ≡ 0) ⊎ (y % 2 ≡ 1) → x % 2 * (y % 2) ≤ 1
    by (inl s) (inl t) = rw (s, t) (omega arith)
    by (inl s) (inr t) = rw (s, t) (omega arith)
    by (inr s) (inl t) = rw (s, t) (omega arith)
    by (inr s) (inr t) = rw (s, t) (omega arith)

pub moved_small : (c x y : ℕ) → c % 2 * (1 - x % 2 * (y % 2)) ≤ c % 2
moved_small c x y = by (mark_by x y)
  where
    by : ((x % 2 + y % 2 ≡ 2) × (gap_mark x y ≡ 0)) ⊎ ((x % 2 + y % 2 ≡ 2 → ⊥) × (gap_mark x y ≡ 1)) → c % 2 * (1 - x % 2 * (y % 2)) ≤ c % 2
    by (inl (k, m)) = rw m (omega arith)
    by (inr (k, m)) = rw m (omega arith)

-- ---- a cell read as an end
pub read_odd : (c : ℕ) → c % 2 ≡ 1 → read_start c ≡ closed_at ((c - 1) / 2)
read_odd zero e = absurd (omega arith)
read_odd (suc c) e = let d : c % 2 ≡ 0 = omega arith in rw (d, read_start) (ap (λ (k : ℕ). closed_at (k / 2)) {x = c} {y = suc c - 1} (omega arith))

pub read_even : (c : ℕ) → 0 < c → c % 2 ≡ 0 → read_start c ≡ open_at ((c - 1) / 2)
read_even zero h e = absurd (omega arith)
read_even (suc c) h e = let d : c % 2 ≡ 1 = omega arith in rw (d, read_start) (ap (λ (k : ℕ). open_at (k / 2)) {x = c} {y = suc c - 1} (omega arith))

pub read_top : (k : ℕ) → read_end k (2 * k) ≡ none
read_top k = let d : 2 * k - 2 * k ≡ 0 = omega arith in rw (d, read_end) refl

pub read_end_odd : (k c : ℕ) → c < 2 * k → c % 2 ≡ 1 → read_end k c ≡ closed_at (c / 2)
read_end_odd k c h e = let d : 2 * k - c ≡ suc (2 * k - suc c) = omega arith in rw (d, e, read_end) refl

pub read_end_even : (k c : ℕ) → c < 2 * k → c % 2 ≡ 0 → read_end k c ≡ open_at (c / 2)
read_end_even k c h e = let d : 2 * k - c ≡ suc (2 * k - suc c) = omega arith in rw (d, e, read_end) refl

both_none : {A B C : Type 0} (f : A → B → C) (b : Bound A) → both f b none ≡ none
unfolding both
both_none f none = refl
both_none f (closed_at a) = refl
both_none f (open_at a) = refl

module _ (n es : ℕ) (wide : 3 ≤ n) where
  -- ---- bounds
  pub start_bounded : (b : Bound Fraction) → start_of_bound (map_bound (cell_of n es) b) ≤ top_cell n
  start_bounded none = omega arith
  start_bounded (closed_at x) = cell_bounded n es wide x
  start_bounded (open_at x) = omega (arith, cell_bounded n es wide x, top_cell_says n wide)

  pub end_bounded : (b : Bound Fraction) → end_of_bound (count n) (map_bound (cell_of n es) b) ≤ top_cell n
  end_bounded none = omega (arith, top_cell_says n wide)
  end_bounded (closed_at x) = cell_bounded n es wide x
  end_bounded (open_at x) = omega (arith, cell_bounded n es wide x)

  -- ---- the first cell
  pub start_left : {x : ℕ} (y : ℕ) → x ≡ 0 → 0 ≡ sum_start n es x y
  unfolding both
  start_left y e = rw e refl

  pub start_right : (x : ℕ) {y : ℕ} → y ≡ 0 → 0 ≡ sum_start n es x y
  start_right x e = rw (e, both_none ◌+ᶠ◌ (map_bound (value_at n es) (read_start x))) refl

  pub start_finite : {c p : ℕ} → (c ≡ 0 → ⊥) → c ≤ top_cell n → p ≡ pattern_at n ((c - 1) / 2) → Spec.Finite n p
  start_finite {c} h l e = rw e (pattern_finite n (some_bit n wide) {k = (c - 1) / 2} (omega (arith, top_cell_says n wide)))

  module _ (x y : ℕ) {p q : ℕ} (i : p ≡ pattern_at n ((x - 1) / 2)) (j : q ≡ pattern_at n ((y - 1) / 2)) {c : ℕ} (e : c ≡ cell_of n es (value n es p +ᶠ value n es q)) where
    here : c ≡ cell_of n es (value_at n es ((x - 1) / 2) +ᶠ value_at n es ((y - 1) / 2))
    here = rw (i, j) at e

    start_closed : x % 2 + y % 2 ≡ 2 → c ≡ sum_start n es x y
    unfolding both
    start_closed h = rw (read_odd x (omega arith), read_odd y (omega arith)) here

    start_open : (x ≡ 0 → ⊥) → (y ≡ 0 → ⊥) → (x % 2 + y % 2 ≡ 2 → ⊥) → 2 * ((c + 1) / 2) ≡ sum_start n es x y
    unfolding both
    start_open k l h = by (parity x) (parity y)
      where
        by : (x % 2 ≡ 0) ⊎ (x % 2 ≡ 1) → (y % 2 ≡ 0) ⊎ (y % 2 ≡ 1) → 2 * ((c + 1) / 2) ≡ sum_start n es x y
        by (inl s) (inl t) = rw (read_even x (omega arith) s, read_even y (omega arith) t, here) refl
        by (inl s) (inr t) = rw (read_even x (omega arith) s, read_odd y t, here) refl
        by (inr s) (inl t) = rw (read_odd x s, read_even y (omega arith) t, here) refl
        by (inr s) (inr t) = absurd (h (omega arith))

    pub start_found : (x ≡ 0 → ⊥) → (y ≡ 0 → ⊥) → c + c % 2 * (1 - x % 2 * (y % 2)) ≡ sum_start n es x y
    start_found i j = by (mark_by x y)
      where
        by : ((x % 2 + y % 2 ≡ 2) × (gap_mark x y ≡ 0)) ⊎ ((x % 2 + y % 2 ≡ 2 → ⊥) × (gap_mark x y ≡ 1)) → c + c % 2 * (1 - x % 2 * (y % 2)) ≡ sum_start n es x y
        by (inl (k, m)) = omega (arith, ap (λ (t : ℕ). c % 2 * t) m, start_closed k)
        by (inr (k, m)) = omega (arith, ap (λ (t : ℕ). c % 2 * t) m, start_open i j k)

  -- ---- the last cell
  pub end_left : {x top : ℕ} (y : ℕ) → top ≡ top_cell n → x ≡ top → top ≡ sum_end n es x y
  unfolding both
  end_left y h e = rw (e, h, top_cell_says n wide, read_top (count n)) refl

  pub end_right : (x : ℕ) {y top : ℕ} → top ≡ top_cell n → y ≡ top → top ≡ sum_end n es x y
  end_right x h e = rw (e, h, top_cell_says n wide, read_top (count n), both_none ◌+ᶠ◌ (map_bound (value_at n es) (read_end (count n) x))) refl

  pub end_finite : {c p top : ℕ} → top ≡ top_cell n → (c ≡ top → ⊥) → c ≤ top_cell n → p ≡ pattern_at n (c / 2) → Spec.Finite n p
  end_finite {c} t h l e = rw e (pattern_finite n (some_bit n wide) {k = c / 2} (omega (arith, top_cell_says n wide)))

  module _ (x y : ℕ) {p q : ℕ} (u : x < top_cell n) (v : y < top_cell n) (i : p ≡ pattern_at n (x / 2)) (j : q ≡ pattern_at n (y / 2)) {c : ℕ} (e : c ≡ cell_of n es (value n es p +ᶠ value n es q)) where
    there : c ≡ cell_of n es (value_at n es (x / 2) +ᶠ value_at n es (y / 2))
    there = rw (i, j) at e

    under : {z : ℕ} → z < top_cell n → z < 2 * count n
    under h = omega (arith, top_cell_says n wide)

    end_closed : x % 2 + y % 2 ≡ 2 → c ≡ sum_end n es x y
    unfolding both
    end_closed h = rw (read_end_odd (count n) x (under u) (omega arith), read_end_odd (count n) y (under v) (omega arith)) there

    end_open : (x % 2 + y % 2 ≡ 2 → ⊥) → 2 * (c / 2) ≡ sum_end n es x y
    unfolding both
    end_open h = by (parity x) (parity y)
      where
        by : (x % 2 ≡ 0) ⊎ (x % 2 ≡ 1) → (y % 2 ≡ 0) ⊎ (y % 2 ≡ 1) → 2 * (c / 2) ≡ sum_end n es x y
        by (inl s) (inl t) = rw (read_end_even (count n) x (under u) s, read_end_even (count n) y (under v) t, there) refl
        by (inl s) (inr t) = rw (read_end_even (count n) x (under u) s, read_end_odd (count n) y (under v) t, there) refl
        by (inr s) (inl t) = rw (read_end_odd (count n) x (under u) s, read_end_even (count n) y (under v) t, there) refl
        by (inr s) (inr t) = absurd (h (omega arith))

    pub end_found : c - c % 2 * (1 - x % 2 * (y % 2)) ≡ sum_end n es x y
    end_found = by (mark_by x y)
      where
        by : ((x % 2 + y % 2 ≡ 2) × (gap_mark x y ≡ 0)) ⊎ ((x % 2 + y % 2 ≡ 2 → ⊥) × (gap_mark x y ≡ 1)) → c - c % 2 * (1 - x % 2 * (y % 2)) ≡ sum_end n es x y
        by (inl (k, m)) = omega (arith, ap (λ (t : ℕ). c % 2 * t) m, end_closed k)
        by (inr (k, m)) = omega (arith, ap (λ (t : ℕ). c % 2 * t) m, end_open k)
