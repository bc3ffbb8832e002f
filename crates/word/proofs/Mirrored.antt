-- The negatives of a real range's members reach the mirrored cells, so the word of these is the answer.
use mathlib.Core.Path.{◌≡◌, sym, ap, ◌∙◌, subst}
use Prim.Native.Nat.{ℕ, suc, ◌+◌, ◌-◌, ◌≤◌, ◌<◌}
use native.Mathlib.Omega.{arith}
use borrow.Author.Tests.{lt-ltb, le-ltb}
use Rattle.exact.specs.Fraction.{Fraction, negᶠ}
use Rattle.bound.specs.Order.{Same}
use Rattle.bound.specs.Extent.{Extent, empty, span, Spans, nothing, exactly}
use Rattle.bound.specs.Cell.{low_cell_in, high_cell_in}
use Rattle.bound.specs.Sign.{negate}
use Rattle.bound.specs.Fractions.{fractions, signed_fractions, same_of_≈, ≈_of_same}
use Rattle.bound.proofs.Extent.{spans_of_same_set}
use Rattle.bound.proofs.Negate.{negate_spans}
use Rattle.bound.proofs.NegateRange.{neg_start_cell, neg_end_cell}
use Rattle.posit.proofs.Patterns.{some_bit}
use Rattle.word.specs.declared.inner.span.Span.{Span}
use Rattle.word.specs.Member.{Real}
use Rattle.word.specs.Numbered.{count, value_at}
use Rattle.word.specs.Smallest.{IsAnswer}
use Rattle.word.specs.Calls.{Negative}
use Rattle.word.specs.Spans.{top_cell, no_cells, cells_of, mirrored, word_at}
use Rattle.word.proofs.Grid.{posits, mirrored_value}
use Rattle.word.proofs.Places.{top_cell_says}
use Rattle.word.proofs.Answers.{reach, answer_of_extent, ordered}
use Rattle.word.proofs.Extents.{extent_of, extent_spans, extent_cells}

-- ---- the mirrored cells
pub mirrored_some : (n : ℕ) (s : Span) → s.lo ≤ s.hi → mirrored n s ≡ record { lo = top_cell n - s.hi; hi = top_cell n - s.lo }
mirrored_some n s l = rw (le-ltb s.hi s.lo l)

pub mirrored_none : (n : ℕ) (s : Span) → s.hi < s.lo → mirrored n s ≡ no_cells n
mirrored_none n s l = rw (lt-ltb s.hi s.lo l)

module _ (n es : ℕ) (wide : 3 ≤ n) where
  pub odd : (k : ℕ) → k < count n → Same fractions (negᶠ (value_at n es k)) (value_at n es (count n - suc k))
  odd k h = rw (mirrored_value n es (some_bit n wide) h) (fractions.reflexive (negᶠ (value_at n es k)), fractions.reflexive (negᶠ (value_at n es k)))

  negated_cells : {S : Fraction → Type 0} {u : Extent Fraction} → Spans fractions S u → reach n es wide (negate signed_fractions u) ≡ mirrored n (reach n es wide u)
  unfolding negate
  negated_cells (nothing h) = (λ i. record { lo = ap (λ (c : ℕ). c + 1) (sym (top_cell_says n wide)) i; hi = 0 }) ∙ sym (mirrored_none n (reach n es wide empty) (omega arith))
  negated_cells (exactly {s} {e} p q) =
      (λ i. record {
        lo = (neg_start_cell signed_fractions (posits n es wide) odd e ∙ ap (λ (c : ℕ). c - high_cell_in (posits n es wide) (span s e)) (sym (top_cell_says n wide))) i;
        hi = (neg_end_cell signed_fractions (posits n es wide) odd s ∙ ap (λ (c : ℕ). c - low_cell_in (posits n es wide) (span s e)) (sym (top_cell_says n wide))) i;
      })
      ∙ sym (mirrored_some n (reach n es wide (span s e)) (ordered n es wide p q))

  module _ {a : ℕ} (r : Real n a) where
    pub negation_spans : Spans fractions (Negative n es a) (negate signed_fractions (extent_of n es wide a))
    negation_spans =
        spans_of_same_set fractions
        (λ z. (
          λ m. record { of = m.source; member = m.member; is_negative = ≈_of_same m.value },
          λ m. record { source = m.of; member = m.member; value = same_of_≈ m.is_negative },
        ))
        (negate_spans signed_fractions (extent_spans n es wide r))

    pub negation_answer : IsAnswer n es (Negative n es a) (word_at n (mirrored n (cells_of n a)))
    negation_answer =
        subst (λ (s : Span). IsAnswer n es (Negative n es a) (word_at n s))
        (negated_cells (extent_spans n es wide r) ∙ ap (mirrored n) (extent_cells n es wide r))
        (answer_of_extent n es wide negation_spans)
