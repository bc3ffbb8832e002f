-- The computed word is the answer: the interval that an operand is read as has its members, the operations on extents give the exact bounds of
-- all results, and the word of the cells that these reach is the smallest range.
use mathlib.Core.Path.{◌≡◌, refl, ap, ◌∙◌}
use mathlib.Core.Logic.{◌↔◌}
use Prim.Native.Nat.{ℕ, zero, suc, ◌+◌, ◌≤◌, ◌<◌}
use native.Mathlib.Omega.{arith}
use Rattle.exact.specs.Fraction.{Fraction}
use Rattle.exact.proofs.Order.{clashᶠ, <ᶠ_of_not_≤ᶠ}
use Rattle.bound.specs.Order.{dual}
use Rattle.bound.specs.Bound.{Bound, none, closed_at, open_at, map_bound, Allows}
use Rattle.bound.specs.Extent.{Extent, empty, span, Within, from_to, Spans}
use Rattle.bound.specs.Operation.{Results}
use Rattle.bound.specs.Cell.{Cell, cell, low_cell_in, high_cell_in}
use Rattle.bound.specs.Fractions.{fractions, same_of_≈, ≈_of_same}
use Rattle.bound.specs.FractionArithmetic.{fraction_arithmetic}
use Rattle.bound.proofs.Cell.{cell_is_cell, cell_is}
use Rattle.bound.proofs.Extent.{spans_of_same_set}
use Rattle.bound.proofs.Arithmetic.{InNonZero, sum_spans, difference_spans, product_spans, quotient_spans}
use Rattle.posit.specs.Value.{value}
use Rattle.call.specs.Operation.{over}
use Rattle.posit.specs.Arithmetic.{exact_result}
use Rattle.posit.proofs.Patterns.{some_bit}
use Rattle.word.specs.Word.{start_of, end_of}
use Rattle.word.specs.Member.{Real, Member, AfterStart, BeforeEnd}
use Rattle.word.specs.Smallest.{IsAnswer, Result}
use Rattle.word.specs.Computed.{cell_of, extent_of, exact_extent, low_cell, high_cell, word_of_extent, answer_of}
use Rattle.word.proofs.Grid.{grid}
use Rattle.word.proofs.Places.{top_cell_says}
use Rattle.word.proofs.Answers.{answer_of_extent}
use Rattle.word.proofs.OneWord.{one_answer}

-- ---- the interval of a word has the members of the word
module _ (n es : ℕ) where
  start_allows : (b : Bound ℕ) (x : Fraction) → AfterStart n es b x ↔ Allows fractions (map_bound (value n es) b) x
  start_allows none x = (λ h. tt, λ h. tt)
  start_allows (closed_at p) x = (λ h. h, λ h. h)
  start_allows (open_at p) x = (clashᶠ, <ᶠ_of_not_≤ᶠ)

  end_allows : (b : Bound ℕ) (x : Fraction) → BeforeEnd n es b x ↔ Allows (dual fractions) (map_bound (value n es) b) x
  end_allows none x = (λ h. tt, λ h. tt)
  end_allows (closed_at p) x = (λ h. h, λ h. h)
  end_allows (open_at p) x = (clashᶠ, <ᶠ_of_not_≤ᶠ)

  pub member_within : (w : ℕ) (x : Fraction) → Member n es w x ↔ Within fractions (extent_of n es w) x
  member_within w x = (
    λ m. from_to ((start_allows (start_of n w) x).0 m.after_start) ((end_allows (end_of n w) x).0 m.before_end),
    λ i. elim i [ from_to h k ↦ record { after_start = (start_allows (start_of n w) x).1 h; before_end = (end_allows (end_of n w) x).1 k } ],
  )

-- ---- the results of bound's operations are the results of the operation number
module _ (n es a b : ℕ) where
  abbrev Left : Fraction → Type 0
  Left = Within fractions (extent_of n es a)

  abbrev Right : Fraction → Type 0
  Right = Within fractions (extent_of n es b)

  -- an operation other than division
  plain : (op : ℕ) → op < over → (z : Fraction) → Results fractions (exact_result op) Left Right z ↔ Result n es op a b z
  plain op small z = (
    λ r.
        record {
          left = r.left;
          right = r.right;
          left_member = (member_within n es a r.left).1 r.left_member;
          right_member = (member_within n es b r.right).1 r.right_member;
          divisor = λ e. absurd (omega arith);
          is_result = ≈_of_same r.value;
        },
    λ r.
        record {
          left = r.left;
          right = r.right;
          left_member = (member_within n es a r.left).0 r.left_member;
          right_member = (member_within n es b r.right).0 r.right_member;
          value = same_of_≈ r.is_result;
        },
  )

  divided : (z : Fraction) → Results fractions (exact_result over) Left (InNonZero fraction_arithmetic (extent_of n es b)) z ↔ Result n es over a b z
  divided z = (
    λ r.
        record {
          left = r.left;
          right = r.right;
          left_member = (member_within n es a r.left).1 r.left_member;
          right_member = (member_within n es b r.right).1 r.right_member.0;
          divisor = λ e q. r.right_member.1 (same_of_≈ q);
          is_result = ≈_of_same r.value;
        },
    λ r.
        record {
          left = r.left;
          right = r.right;
          left_member = (member_within n es a r.left).0 r.left_member;
          right_member = ((member_within n es b r.right).0 r.right_member, λ q. r.divisor refl (≈_of_same q));
          value = same_of_≈ r.is_result;
        },
  )

  pub results_span : (op : ℕ) → op ≤ over → Spans fractions (Result n es op a b) (exact_extent op (extent_of n es a) (extent_of n es b))
  unfolding exact_extent
  results_span zero h = spans_of_same_set fractions (plain 0 (omega arith)) (sum_spans fraction_arithmetic (extent_of n es a) (extent_of n es b))
  results_span (suc zero) h =
      spans_of_same_set fractions (plain 1 (omega arith)) (difference_spans fraction_arithmetic (extent_of n es a) (extent_of n es b))
  results_span (suc (suc zero)) h =
      spans_of_same_set fractions (plain 2 (omega arith)) (product_spans fraction_arithmetic (extent_of n es a) (extent_of n es b))
  results_span (suc (suc (suc zero))) h = spans_of_same_set fractions divided (quotient_spans fraction_arithmetic (extent_of n es a) (extent_of n es b))
  results_span (suc (suc (suc (suc op)))) h = absurd (omega arith)

-- ---- the cell of a fraction, and the word of an extent
module _ (n es : ℕ) (wide : 3 ≤ n) where
  pub cell_computed : (x : Fraction) → cell_of n es x ≡ cell (grid n es (some_bit n wide)) x
  unfolding cell_of cell
  cell_computed x = refl

  pub cell_of_fraction : (x : Fraction) → Cell (grid n es (some_bit n wide)) x (cell_of n es x)
  cell_of_fraction x = rw (cell_computed x) (cell_is_cell (grid n es (some_bit n wide)) x)

  pub cell_of_is : {x : Fraction} {c : ℕ} → Cell (grid n es (some_bit n wide)) x c → cell_of n es x ≡ c
  cell_of_is {x} h = cell_computed x ∙ cell_is (grid n es (some_bit n wide)) h

  low_same : (u : Extent Fraction) → low_cell n es u ≡ low_cell_in (grid n es (some_bit n wide)) u
  unfolding cell_of cell
  low_same empty = ap (λ (c : ℕ). c + 1) (top_cell_says n wide)
  low_same (span s e) = refl

  high_same : (u : Extent Fraction) → high_cell n es u ≡ high_cell_in (grid n es (some_bit n wide)) u
  unfolding cell_of cell
  high_same empty = refl
  high_same (span s e) = refl

  pub extent_answer : {S : Fraction → Type 0} {u : Extent Fraction} → Spans fractions S u → IsAnswer n es S (word_of_extent n es u)
  extent_answer {S} {u} s = rw (low_same u, high_same u) (answer_of_extent n es wide s)

-- ---- the answer of an operation
module _ (n es op a b : ℕ) (wide : 3 ≤ n) (known : op ≤ over) where
  pub answer_computed : IsAnswer n es (Result n es op a b) (answer_of n es op a b)
  unfolding answer_of
  answer_computed = extent_answer n es wide (results_span n es a b op known)

  pub answer_is : {w : ℕ} → IsAnswer n es (Result n es op a b) w → w ≡ answer_of n es op a b
  answer_is h = one_answer n es wide h answer_computed

  pub answer_real : Real n (answer_of n es op a b)
  answer_real = answer_computed.smallest.real
