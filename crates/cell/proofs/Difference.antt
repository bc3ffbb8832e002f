-- The difference of two ranges is the sum of the first and the negated second: its members are the negatives, so that both have the same results.
use mathlib.Core.Path.{◌≡◌, sym, ap, ◌∙◌, subst}
use mathlib.Core.Logic.{◌↔◌}
use Prim.Native.Nat.{ℕ, ◌-◌, ◌≤◌, ◌<◌}
use native.Mathlib.Omega.{arith}
use native.Mathlib.Decide.{dec_lt}
use Rattle.exact.specs.Fraction.{Fraction, negᶠ}
use Rattle.exact.proofs.Order.{≈_refl, ≈_sym, ≈_trans}
use Rattle.exact.proofs.Sum.{+ᶠ_cong, -ᶠ_is, negᶠ_negᶠ}
use Rattle.bound.specs.Fractions.{fractions}
use Rattle.bound.proofs.Extent.{spans_of_same_set}
use Rattle.word.specs.declared.inner.span.Span.{Span}
use Rattle.word.specs.Member.{Real, Member}
use Rattle.word.specs.Smallest.{IsAnswer, Result}
use Rattle.word.specs.Calls.{Negative}
use Rattle.word.specs.Spans.{top_cell, no_cells, cells_of, mirrored, word_at}
use Rattle.word.specs.Computed.{answer_of}
use Rattle.cell.specs.Cells.{sum_cells}
use Rattle.word.proofs.RealWords.{cells_there}
use Rattle.word.proofs.Members.{member_cells}
use Rattle.word.proofs.WordAt.{word_at_none, cells_at, empty_word_cells}
use Rattle.word.proofs.Answers.{member_at, empty_word_has_none}
use Rattle.word.proofs.OneWord.{one_answer}
use Rattle.word.proofs.Mirrored.{mirrored_some, mirrored_none, negation_answer}
use Rattle.word.proofs.Computed.{cell_computed, results_span, extent_answer, answer_is}
use Rattle.cell.proofs.CellFrom.{cell_bounded, cell_negated}
use Rattle.cell.proofs.SumRange.{sum_found}

module _ (n es : ℕ) (wide : 3 ≤ n) {b : ℕ} (r : Real n b) where
  -- ---- the members of the mirrored cells
  mirrored_member : (x : Fraction) → Member n es (word_at n (mirrored n (cells_of n b))) x → Member n es b (negᶠ x)
  mirrored_member x m = by (dec_lt (cells_of n b).hi (cells_of n b).lo)
    where
      by : Dec ((cells_of n b).hi < (cells_of n b).lo) → Member n es b (negᶠ x)
      by (yes l) = absurd (empty_word_has_none n es wide x (subst (λ (w : ℕ). Member n es w x) (ap (word_at n) (mirrored_none n (cells_of n b) l) ∙ word_at_none n (no_cells n) (omega arith)) m))
      by (no l) =
          let c = cells_there n wide r in
          let here = (member_at n es wide (record { lo = top_cell n - (cells_of n b).hi; hi = top_cell n - (cells_of n b).lo }) (omega (arith, c)) (omega (arith, c)) x).0 (subst (λ (w : ℕ). Member n es w x) (ap (word_at n) (mirrored_some n (cells_of n b) (omega arith))) m) in
          (member_cells n es wide r (negᶠ x)).1 (
            omega (arith, here, c, cell_computed n es wide x, cell_computed n es wide (negᶠ x), cell_negated n es wide x, cell_bounded n es wide x),
            omega (arith, here, c, cell_computed n es wide x, cell_computed n es wide (negᶠ x), cell_negated n es wide x, cell_bounded n es wide x),
          )

  module _ {t : ℕ} (h : IsAnswer n es (Negative n es b) t) where
    negative_member : (x : Fraction) → Member n es t x → Member n es b (negᶠ x)
    negative_member x m = mirrored_member x (subst (λ (w : ℕ). Member n es w x) (one_answer n es wide h (negation_answer n es wide r)) m)

    same_results : (a : ℕ) (z : Fraction) → Result n es 0 a t z ↔ Result n es 1 a b z
    same_results a z = (
      λ s.
          record {
            left = s.left;
            right = negᶠ s.right;
            left_member = s.left_member;
            right_member = negative_member s.right s.right_member;
            divisor = λ e. absurd (omega arith);
            is_result =
                ≈_trans s.is_result
                (≈_sym (≈_trans (-ᶠ_is s.left (negᶠ s.right)) (+ᶠ_cong (≈_refl s.left) (negᶠ_negᶠ s.right))));
          },
      λ s.
          record {
            left = s.left;
            right = negᶠ s.right;
            left_member = s.left_member;
            right_member = h.smallest.holds (negᶠ s.right) (record { of = s.right; member = s.right_member; is_negative = ≈_refl (negᶠ s.right) });
            divisor = λ e. absurd (omega arith);
            is_result = ≈_trans s.is_result (-ᶠ_is s.left s.right);
          },
    )

    difference_is_sum : (a : ℕ) → answer_of n es 0 a t ≡ answer_of n es 1 a b
    unfolding answer_of
    difference_is_sum a =
        answer_is n es 1 a b wide (omega arith) (extent_answer n es wide (spans_of_same_set fractions (same_results a) (results_span n es a t 0 (omega arith))))

    -- ---- the negated range has the cells of the negatives
    negated_cells : cells_of n t ≡ mirrored n (cells_of n b)
    negated_cells = ap (cells_of n) (one_answer n es wide h (negation_answer n es wide r)) ∙ by (dec_lt (cells_of n b).hi (cells_of n b).lo)
      where
        by : Dec ((cells_of n b).hi < (cells_of n b).lo) → cells_of n (word_at n (mirrored n (cells_of n b))) ≡ mirrored n (cells_of n b)
        by (yes l) =
            let m = mirrored_none n (cells_of n b) l in
            ap (λ (s : Span). cells_of n (word_at n s)) m ∙ ap (cells_of n) (word_at_none n (no_cells n) (omega arith)) ∙ empty_word_cells n wide ∙ sym m
        by (no l) =
            let c = cells_there n wide r in
            let m = mirrored_some n (cells_of n b) (omega arith) in
            ap (λ (s : Span). cells_of n (word_at n s)) m
            ∙ cells_at n wide (record { lo = top_cell n - (cells_of n b).hi; hi = top_cell n - (cells_of n b).lo }) (omega (arith, c)) (omega (arith, c)) ∙ sym m

    pub negative_word : (x : Span) {y : Span} → y ≡ cells_of n t → {w : ℕ} → w ≡ word_at n (sum_cells n es x y) → w ≡ word_at n (sum_cells n es x (mirrored n (cells_of n b)))
    negative_word x i k = k ∙ ap (λ (y : Span). word_at n (sum_cells n es x y)) (i ∙ negated_cells)

  pub difference_found :
      {a : ℕ} → Real n a → {x : Span} → x ≡ cells_of n a → {w : ℕ} → w ≡ word_at n (sum_cells n es x (mirrored n (cells_of n b))) → w ≡ answer_of n es 1 a b
  difference_found {a} q i k =
      let h = negation_answer n es wide r in
      sum_found n es wide q h.smallest.real i (sym (negated_cells h)) k ∙ difference_is_sum h a
