-- A call of an operation on ranges: in a format it is judged by its number and its operands, after these 0 in a divisor is refused, and where it is done
-- it comes back with the computed answer.
use Rattle.std.proofs.Common.{◌≡◌, ℕ, ◌<◌, Bool, true, false, ◌&&◌, [], sym, ap, ◌∙◌, arith}
use lib.IntN.{pos}
use lib.Dec.{eqb}
use Rattle.std.specs.Prelude.{Result, Ok, Err}
use Rattle.exact.specs.Fraction.{whole}
use Rattle.call.specs.declared.reason.Reason.{Reason}
use Rattle.call.specs.declared.reason.Reason.TheVariants.{OutsideLimits, NoOperation}
use Rattle.call.specs.declared.refusal.Refusal.{Refusal}
use Rattle.call.specs.declared.operation.Operation.{Operation}
use Rattle.call.specs.Operation.{over, plus, minus, times, number_of}
use Rattle.call.specs.Verdict.{Answers, done, refused}
use Rattle.call.proofs.Answered.{accepts, one_answer}
use Rattle.call.proofs.FirstHit.{hits, passes, none_hits}
use Rattle.posit.specs.declared.inner.format.Format as Formats
use Rattle.posit.specs.Format.{is_format}
use Rattle.posit.proofs.Formats.{within}
use Rattle.posit.proofs.Calls.{known}
use Rattle.word.specs.declared.inner.span.Span.{Span}
use Rattle.word.specs.Member.{is_member}
use Rattle.word.specs.Smallest as Smallest
use Rattle.word.specs.Smallest.{IsAnswer}
use Rattle.word.specs.Refusal.{verdict_of_operands, verdict_of_range_operation, divisor_test}
use Rattle.word.specs.Calls.{OperationOf}
use Rattle.word.specs.Taking.{CellsOfBoth}
use Rattle.word.specs.Spans.{cells_of, mirrored, Cells, word_at}
use Rattle.word.proofs.Verdicts.{range_operation_outside, operation_by_words, operation_by_number, operands_by_words, operation_format}
use Rattle.word.proofs.RealWords.{cells_at_hand}
use Rattle.word.proofs.Computed.{answer_computed}
use Rattle.word.proofs.OneWord as OneWord
use Rattle.cell.specs.Cells.{sum_cells}
use Rattle.cell.proofs.SumRange.{sum_found}
use Rattle.cell.proofs.Difference.{difference_found}
use Rattle.signs.specs.Signs.{has_zero, product_cells, quotient_cells}
use Rattle.signs.proofs.HasZero.{zero_member}
use Rattle.signs.proofs.ByStages.{product_found, quotient_found}

-- ---- the operands judged
module _ (f : Formats.Format) {a b : ℕ} {x y : Span} (t : CellsOfBoth f.n a b (x, y)) where
  abbrev n : ℕ
  n = f.n

  abbrev es : ℕ
  es = f.es

  pub both_cells : Cells n x × Cells n y
  both_cells = (cells_at_hand (within f) t.left_real t.left, cells_at_hand (within f) t.right_real t.right)

  zero_of_right : has_zero n y ≡ is_member n es b (whole (pos 0))
  zero_of_right = zero_member (within f) t.right_real t.right

  pub zero_refused : has_zero n y ≡ true → verdict_of_operands n es over a b ≡ record { number = 5; place = 1 }
  zero_refused z = operands_by_words n es over a b t.left_real t.right_real ∙ hits (divisor_test n es over b) [] (sym zero_of_right ∙ z)

  pub operands_done : (op : ℕ) → (eqb op over && has_zero n y) ≡ false → verdict_of_operands n es op a b ≡ done
  operands_done op z =
      operands_by_words n es op a b t.left_real t.right_real
      ∙ passes (divisor_test n es op b) [] (ap (λ (h : Bool). eqb op over && h) (sym zero_of_right) ∙ z) ∙ none_hits

  -- ---- what each operation answers
  pub sum_answer : {w : ℕ} → w ≡ word_at n (sum_cells n es x y) → IsAnswer n es (Smallest.Result n es plus a b) w
  sum_answer h = rw (sum_found n es f.wide_enough t.left_real t.right_real t.left t.right h) (answer_computed n es plus a b f.wide_enough (omega arith))

  pub difference_answer : {w : ℕ} → w ≡ word_at n (sum_cells n es x (mirrored n (cells_of n b))) → IsAnswer n es (Smallest.Result n es minus a b) w
  difference_answer h = rw (difference_found n es f.wide_enough t.right_real t.left_real t.left h) (answer_computed n es minus a b f.wide_enough (omega arith))

  pub product_answer : {w : ℕ} → w ≡ word_at n (product_cells n es x y) → IsAnswer n es (Smallest.Result n es times a b) w
  product_answer h = rw (product_found n es f.wide_enough t.left_real t.right_real t.left t.right h) (answer_computed n es times a b f.wide_enough (omega arith))

  pub quotient_answer : {w : ℕ} → w ≡ word_at n (quotient_cells n es x y) → IsAnswer n es (Smallest.Result n es over a b) w
  quotient_answer h = rw (quotient_found n es f.wide_enough t.left_real t.right_real t.left t.right h) (answer_computed n es over a b f.wide_enough (omega arith))

-- ---- the call
module _ (n es op a b : ℕ) where
  pub outside_limits : {e : Reason} → (e ≡ OutsideLimits) × (is_format n es ≡ false) → verdict_of_range_operation n es op a b ≡ refused (record { reason = e; place = 0 })
  outside_limits h = rw h.0 (range_operation_outside n es _ _ _ h.1)

  pub no_operation : (f : Formats.Format) {e : Reason} → (n ≡ f.n) × (es ≡ f.es) → (e ≡ NoOperation) × (3 < op) → verdict_of_range_operation n es op a b ≡ refused (record { reason = e; place = 0 })
  no_operation f is h = rw (h.0, is.0, is.1) (operation_by_number (within f) op a b h.1)

  -- so a call has one answer, refused or not
  pub operation_once : (x y : Result ℕ Refusal) → OperationOf n es op a b x → OperationOf n es op a b y → x ≡ y
  operation_once =
      one_answer (verdict_of_range_operation n es op a b) (IsAnswer n es (Smallest.Result n es op a b))
      (λ passed x y h k. OneWord.one_answer n es (operation_format n es op a b (accepts passed)).wide_enough h k)

module _ (f : Formats.Format) (o : Operation) (a b : ℕ) where
  in_format : (r : Result ℕ Refusal) → Answers (verdict_of_operands f.n f.es (number_of o) a b) (IsAnswer f.n f.es (Smallest.Result f.n f.es (number_of o) a b)) r
      → OperationOf f.n f.es (number_of o) a b r
  in_format (Ok x) h = (operation_by_words (within f) (number_of o) a b (known o) ∙ h.0, h.1)
  in_format (Err e) h = operation_by_words (within f) (number_of o) a b (known o) ∙ h

  pub by_operands : {n es : ℕ} (r : Result ℕ Refusal) → (n ≡ f.n) × (es ≡ f.es)
      → Answers (verdict_of_operands f.n f.es (number_of o) a b) (IsAnswer f.n f.es (Smallest.Result f.n f.es (number_of o) a b)) r → OperationOf n es (number_of o) a b r
  by_operands r is h = rw (is.0, is.1) (in_format r h)
