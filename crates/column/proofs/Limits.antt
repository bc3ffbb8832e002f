-- The tests of the lengths of columns: where they hit, where they pass, and what a call that passes them has.
use mathlib.Core.Path.{◌≡◌, refl, subst}
use mathlib.Core.List.{[], ◌∷◌}
use mathlib.Core.Bool.{true, false, not}
use Prim.Native.Nat.{ℕ, ◌+◌, ◌≤◌, ◌<◌}
use lib.Dec.{eqb, ltb}
use borrow.Author.Tests.{lt-ltb, le-ltb, eq-eqb, ne_eqb, ltb-false, eqb-true, not-false}
use Rattle.posit.specs.Format.{is_format}
use Rattle.posit.proofs.Verdicts.{format_of, format_clear}
use Rattle.posit.proofs.Formats.{within}
use Rattle.posit.proofs.Calls.{known}
use Rattle.posit.specs.declared.inner.format.Format as Formats
use Rattle.posit.specs.Refusal.{format_test}
use Rattle.call.specs.declared.operation.Operation.{Operation}
use Rattle.call.specs.Operation.{number_of, operation_test}
use Rattle.column.specs.Refusal.{longest_column, length_test}
use Rattle.column.specs.Accepted.{ColumnFits}
use Rattle.column.specs.Column.{column_limits}
use Rattle.call.proofs.Tests.{Passing, all_pass, one_passes, passing_both, Refusing, gives_none, one_refuses, head_passes, tail_passes}
use Rattle.call.proofs.Facts.{either_true, either_false}

-- ---- 7 for columns
module _ (left right : ℕ) where
  pub unequal_hits : (left ≡ right → ⊥) → (length_test left right).hit ≡ true
  unequal_hits d = rw (ne_eqb left right d)

  pub long_hits : longest_column < left → (length_test left right).hit ≡ true
  long_hits h = either_true (not (eqb left right)) _ (lt-ltb longest_column left h)

  pub length_passes : left ≡ right → left ≤ longest_column → (length_test left right).hit ≡ false
  length_passes e h = rw (eq-eqb left right e, le-ltb longest_column left h)

-- ---- a format and an operation that were found pass their tests
module _ {n es : ℕ} (f : Formats.Format) (is : (n ≡ f.n) × (es ≡ f.es)) where
  pub format_passed : Passing (format_test n es ∷ [])
  format_passed = rw (is.0, is.1) (one_passes (format_clear (within f)) all_pass)

  module _ {op : ℕ} (o : Operation) (names : number_of o ≡ op) where
    pub operation_passed : Passing (format_test n es ∷ operation_test op ∷ [])
    operation_passed = passing_both format_passed (one_passes (le-ltb 3 op (subst (λ (k : ℕ). k ≤ 3) names (known o))) all_pass)

    pub length_passed : {left right : ℕ} → left ≡ right → left ≤ longest_column → Passing (format_test n es ∷ operation_test op ∷ length_test left right ∷ [])
    length_passed {left} {right} e h = passing_both operation_passed (one_passes (length_passes left right e h) all_pass)

-- ---- what passes
pub column_refusing : (n es op left right row lent : ℕ) → Refusing (column_limits n es op left right row lent)
column_refusing n es op left right row lent = one_refuses refl (one_refuses refl (one_refuses refl (one_refuses refl gives_none)))

pub column_fits : {n es op left right row lent : ℕ} → Passing (column_limits n es op left right row lent) → ColumnFits n es op left right row lent
column_fits {n} {es} {op} {left} {right} {row} {lent} p =
    let lengths = either_false (not (eqb left right)) (ltb longest_column left) (head_passes (tail_passes (tail_passes p))) in
    record {
      format = format_of (not-false (is_format n es) (head_passes p));
      operation = ltb-false 3 op (head_passes (tail_passes p));
      as_long = eqb-true left right (not-false (eqb left right) lengths.0);
      short = ltb-false longest_column left lengths.1;
      room = ltb-false lent (row + left) (head_passes (tail_passes (tail_passes (tail_passes p))));
    }

-- ---- and back
pub column_passing : {n es op left right row lent : ℕ} → ColumnFits n es op left right row lent → Passing (column_limits n es op left right row lent)
column_passing {n} {es} {op} {left} {right} {row} {lent} f =
    one_passes (format_clear f.format)
    (one_passes (le-ltb 3 op f.operation)
    (one_passes (length_passes left right f.as_long f.short) (one_passes (le-ltb lent (row + left) f.room) all_pass)))
