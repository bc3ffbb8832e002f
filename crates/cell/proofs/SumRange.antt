-- The answer of a sum is the word of the outermost cells of all sums: a range with a cell is its own extent, whose bounds stand at its first and its
-- last cell, and the extent of all sums has the sums of these bounds.
use mathlib.Core.Path.{◌≡◌, refl, sym, ap, ap₂, ◌∙◌}
use mathlib.Core.Bool.{Bool, true, false, ◌||◌}
use Prim.Native.Nat.{ℕ, ◌+◌, ◌-◌, ◌*◌, ◌/◌, ◌≤◌, ◌<◌}
use native.Mathlib.Omega.{arith}
use native.Mathlib.Decide.{dec_lt}
use lib.Dec.{ltb}
use borrow.Author.Tests.{lt-ltb, le-ltb}
use Rattle.exact.specs.Fraction.{Fraction, ◌+ᶠ◌}
use Rattle.bound.specs.Bound.{Bound, none, closed_at, open_at, map_bound}
use Rattle.bound.specs.Extent.{Extent, empty, span, normal}
use Rattle.bound.specs.Operation.{both, combine}
use Rattle.bound.specs.Arithmetic.{sum}
use Rattle.bound.specs.End.{start_place, end_place}
use Rattle.bound.specs.Fractions.{fractions}
use Rattle.bound.proofs.Extent.{normal_spans, normal_of_some, empty_iff_no_member}
use Rattle.bound.proofs.Smallest.{at_low}
use Rattle.posit.specs.Format.{Format}
use Rattle.posit.specs.Value.{value}
use Rattle.posit.proofs.Patterns.{some_bit}
use Rattle.posit.proofs.Mirror.{power_wider}
use Rattle.word.specs.declared.inner.span.Span.{Span}
use Rattle.word.specs.Word.{tiles, start_of, end_of, start_tile, end_tile, empty_word}
use Rattle.word.specs.Member.{Real}
use Rattle.word.specs.Numbered.{count, number_of}
use Rattle.word.specs.Spans.{start_cell, end_cell, no_cells, cells_of, Cells, word_at}
use Rattle.word.specs.Computed.{extent_of, exact_extent, low_cell, high_cell, word_of_extent, answer_of}
use Rattle.cell.specs.Cells.{start_at, end_at, sum_start, sum_end, sum_cells}
use Rattle.word.proofs.Grid.{posits, value_of_number, number_fits}
use Rattle.word.proofs.Places.{FiniteEnd}
use Rattle.word.proofs.RealWords.{RealCase, has_cells, has_none, real_case, start_placed, end_placed, high_there}
use Rattle.word.proofs.Members.{member_cells}
use Rattle.word.proofs.Comparisons.{of_cells}
use Rattle.word.proofs.Tiles.{half_large}
use Rattle.word.proofs.WordAt.{word_at_none}
use Rattle.word.proofs.Computed.{member_within}
use Rattle.cell.proofs.SumCells.{read_odd, read_even, read_top, read_end_odd, read_end_even, start_bounded, end_bounded}

lt_not : {x y : ℕ} → x ≤ y → ¬ (y < x)
lt_not h k = omega arith

or_true : (b : Bool) → (b || true) ≡ true
or_true true = refl
or_true false = refl

combine_none : {A B C : Type 0} (f : A → B → C) (u : Extent A) → combine f u empty ≡ empty
unfolding combine
combine_none f empty = refl
combine_none f (span s e) = refl

module _ (n es : ℕ) (wide : 3 ≤ n) where
  -- ---- the bound at the place of an end is that end
  start_back : (b : Bound ℕ) → FiniteEnd n b → start_at n es (start_place (map_bound (number_of n) b)) ≡ map_bound (value n es) b
  start_back none f = refl
  start_back (closed_at p) f =
      let k : ℕ = number_of n p in
      let d : (2 * k + 1 - 1) / 2 ≡ k = omega arith in
      rw (read_odd (2 * k + 1) (omega arith), d, value_of_number n es (some_bit n wide) f) refl
  start_back (open_at p) f =
      let k : ℕ = number_of n p in
      let d : (2 * k + 2 - 1) / 2 ≡ k = omega arith in
      rw (read_even (2 * k + 2) (omega arith) (omega arith), d, value_of_number n es (some_bit n wide) f) refl

  end_back : (b : Bound ℕ) → FiniteEnd n b → end_at n es (end_place (count n) (map_bound (number_of n) b)) ≡ map_bound (value n es) b
  end_back none f = rw (read_top (count n)) refl
  end_back (closed_at p) f =
      let k : ℕ = number_of n p in
      let d : (2 * k + 1) / 2 ≡ k = omega arith in
      rw (read_end_odd (count n) (2 * k + 1) (omega (arith, number_fits n (some_bit n wide) f)) (omega arith), d, value_of_number n es (some_bit n wide) f) refl
  end_back (open_at p) f =
      let k : ℕ = number_of n p in
      let d : 2 * k / 2 ≡ k = omega arith in
      rw (read_end_even (count n) (2 * k) (omega (arith, number_fits n (some_bit n wide) f)) (omega arith), d, value_of_number n es (some_bit n wide) f) refl

  module _ {a : ℕ} (r : Real n a) where
    -- ---- a range with a cell
    module _ (l : ¬ ((cells_of n a).hi < (cells_of n a).lo)) where
      both_cells : (start_cell n (start_tile n a) ≡ (cells_of n a).lo) × (end_cell n (end_tile n a) ≡ (cells_of n a).hi)
      both_cells = go (real_case n wide r)
        where
          go : RealCase n a → (start_cell n (start_tile n a) ≡ (cells_of n a).lo) × (end_cell n (end_tile n a) ≡ (cells_of n a).hi)
          go (has_cells k m e) = (ap (λ (s : Span). s.lo) (sym e), ap (λ (s : Span). s.hi) (sym e))
          go (has_none t i m o h e) = absurd (l (rw e (omega arith)))

      start_bound : start_at n es (cells_of n a).lo ≡ map_bound (value n es) (start_of n a)
      start_bound =
          ap (start_at n es) (sym both_cells.0 ∙ (start_placed n wide r).start_cell_is) ∙ start_back (start_of n a) (start_placed n wide r).finite_end

      end_bound : end_at n es (cells_of n a).hi ≡ map_bound (value n es) (end_of n a)
      end_bound = ap (end_at n es) (sym both_cells.1 ∙ (end_placed n wide r).end_cell_is) ∙ end_back (end_of n a) (end_placed n wide r).finite_end

      some_extent : normal fractions (extent_of n es a) ≡ span (start_at n es (cells_of n a).lo) (end_at n es (cells_of n a).hi)
      some_extent =
          let (x, i, j) = at_low (posits n es wide) (cells_of n a).lo (cells_of n a).hi (omega arith) (high_there n wide r) in
          normal_of_some fractions _ _ ((member_within n es a x).0 (of_cells n es wide r i)) ∙ ap₂ span (sym start_bound) (sym end_bound)

    -- ---- a range with none
    no_extent : (cells_of n a).hi < (cells_of n a).lo → normal fractions (extent_of n es a) ≡ empty
    no_extent l =
        (empty_iff_no_member fractions (normal_spans fractions (extent_of n es a))).1
        (λ x k. let h = (member_cells n es wide r x).0 ((member_within n es a x).1 k) in absurd (omega (arith, h)))

  -- ---- the cells of all sums, by what the operands have
  module _ (x y : Span) where
    left_none : x.hi < x.lo → sum_cells n es x y ≡ no_cells n
    left_none l = rw (lt-ltb x.hi x.lo l)

    right_none : y.hi < y.lo → sum_cells n es x y ≡ no_cells n
    right_none l = rw (lt-ltb y.hi y.lo l, or_true (ltb x.hi x.lo))

    both_some : x.lo ≤ x.hi → y.lo ≤ y.hi → sum_cells n es x y ≡ record { lo = sum_start n es x.lo y.lo; hi = sum_end n es x.hi y.hi }
    both_some k l = rw (le-ltb x.hi x.lo k, le-ltb y.hi y.lo l)

    none_word : sum_cells n es x y ≡ no_cells n → word_at n (sum_cells n es x y) ≡ empty_word n
    none_word e = ap (word_at n) e ∙ word_at_none n (no_cells n) (omega arith)

    pub no_left : x.hi < x.lo → {w : ℕ} → w ≡ empty_word n → w ≡ word_at n (sum_cells n es x y)
    no_left l h = h ∙ sym (none_word (left_none l))

    pub no_right : y.hi < y.lo → {w : ℕ} → w ≡ empty_word n → w ≡ word_at n (sum_cells n es x y)
    no_right l h = h ∙ sym (none_word (right_none l))

    module _ {lo hi : ℕ} (s : lo ≡ sum_start n es x.lo y.lo) (e : hi ≡ sum_end n es x.hi y.hi) where
      pub sums_there : Cells n (record { lo = lo; hi = hi })
      sums_there =
          omega (
            arith,
            start_bounded n es wide (both ◌+ᶠ◌ (start_at n es x.lo) (start_at n es y.lo)),
            end_bounded n es wide (both ◌+ᶠ◌ (end_at n es x.hi) (end_at n es y.hi)),
          )

      pub sum_word : x.lo ≤ x.hi → y.lo ≤ y.hi → {w : ℕ} → w ≡ word_at n (record { lo = lo; hi = hi }) → w ≡ word_at n (sum_cells n es x y)
      sum_word k l h = h ∙ ap (word_at n) (sym (both_some k l ∙ (λ i. record { lo = sym s i; hi = sym e i })))

  -- ---- the answer
  module _ {a b : ℕ} (r : Real n a) (q : Real n b) where
    abbrev sums : Extent Fraction
    sums = combine ◌+ᶠ◌ (normal fractions (extent_of n es a)) (normal fractions (extent_of n es b))

    answer_sum : answer_of n es 0 a b ≡ word_of_extent n es sums
    unfolding answer_of exact_extent sum
    answer_sum = refl

    none_answer : sums ≡ empty → answer_of n es 0 a b ≡ empty_word n
    none_answer e =
        answer_sum ∙ ap (word_of_extent n es) e ∙ word_at_none n (record { lo = low_cell n es empty; hi = high_cell n es empty }) (omega arith)

    left_answer : (cells_of n a).hi < (cells_of n a).lo → answer_of n es 0 a b ≡ empty_word n
    unfolding combine
    left_answer l = none_answer (ap (λ (u : Extent Fraction). combine ◌+ᶠ◌ u (normal fractions (extent_of n es b))) (no_extent r l))

    right_answer : (cells_of n b).hi < (cells_of n b).lo → answer_of n es 0 a b ≡ empty_word n
    right_answer l =
        none_answer
        (ap (combine ◌+ᶠ◌ (normal fractions (extent_of n es a))) (no_extent q l) ∙ combine_none ◌+ᶠ◌ (normal fractions (extent_of n es a)))

    module _ (k : (cells_of n a).lo ≤ (cells_of n a).hi) (l : (cells_of n b).lo ≤ (cells_of n b).hi) where
      all_sums : sums ≡ span (both ◌+ᶠ◌ (start_at n es (cells_of n a).lo) (start_at n es (cells_of n b).lo)) (both ◌+ᶠ◌ (end_at n es (cells_of n a).hi) (end_at n es (cells_of n b).hi))
      unfolding combine
      all_sums = ap₂ (combine ◌+ᶠ◌) (some_extent r (lt_not k)) (some_extent q (lt_not l))

      some_answer : answer_of n es 0 a b ≡ word_at n (sum_cells n es (cells_of n a) (cells_of n b))
      some_answer = answer_sum ∙ ap (word_of_extent n es) all_sums ∙ ap (word_at n) (sym (both_some (cells_of n a) (cells_of n b) k l))

    pub sum_answer : answer_of n es 0 a b ≡ word_at n (sum_cells n es (cells_of n a) (cells_of n b))
    sum_answer = by (dec_lt (cells_of n a).hi (cells_of n a).lo) (dec_lt (cells_of n b).hi (cells_of n b).lo)
      where
        by : Dec ((cells_of n a).hi < (cells_of n a).lo) → Dec ((cells_of n b).hi < (cells_of n b).lo) → answer_of n es 0 a b ≡ word_at n (sum_cells n es (cells_of n a) (cells_of n b))
        by (yes k) l = no_left (cells_of n a) (cells_of n b) k (left_answer k)
        by (no k) (yes l) = no_right (cells_of n a) (cells_of n b) l (right_answer l)
        by (no k) (no l) = some_answer (omega arith) (omega arith)

    pub sum_found : {x y : Span} → x ≡ cells_of n a → y ≡ cells_of n b → {w : ℕ} → w ≡ word_at n (sum_cells n es x y) → w ≡ answer_of n es 0 a b
    sum_found i j h = h ∙ ap₂ (λ (u v : Span). word_at n (sum_cells n es u v)) i j ∙ sym sum_answer

-- ---- the machine's facts
pub one_fits : {n es : ℕ} → Format n es → 1 < tiles n
one_fits {n} f = omega (arith, power_wider n, half_large f.wide_enough)
