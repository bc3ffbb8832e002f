-- `column::inner::limits::judge_columns` meets its contract: its tests are those of the verdict, in their order.
use Rattle.std.proofs.Common.{ap, not, [], refl, sym, arith}
use borrow.Author.Tests.{lt-ltb, le-ltb}
use Rattle.posit.specs.Refusal.{format_test}
use Rattle.call.specs.Operation.{operation_test}
use Rattle.column.specs.Refusal.{length_test}
use Rattle.call.specs.Written.{room_test}
use Rattle.call.proofs.Answered.{passes_on}
use Rattle.call.proofs.Tests.{all_pass, one_passes, passing_both, passing_done}
use Rattle.call.proofs.Said.{refused_hit}
use Rattle.column.proofs.Limits.{unequal_hits, long_hits, format_passed, operation_passed, length_passed}
use Rattle.column.proofs.inner.limits.judge_columns.Goals as goal

pub returns-in_err-f : goal.returns-in_err-f
returns-in_err-f c =
    passes_on _ _ _ c.from_residual.ensures
    (rw c.in_err-f.ensures.0 (refused_hit all_pass (format_test c.args.n c.args.es) _ (ap not c.in_err-f.ensures.1) refl))

pub returns-in_err-op : goal.returns-in_err-op
returns-in_err-op c =
    passes_on _ _ _ c.from_residual-in_err-op.ensures
    (rw c.in_err-op.ensures.0 (refused_hit (format_passed c.in_ok-f.f c.in_ok-f.ensures) (operation_test c.args.op) _ (lt-ltb 3 _ c.in_err-op.ensures.1) refl))

pub returns-then-left-right : goal.returns-then-left-right
returns-then-left-right c =
    let a = c.args in
    rw c.at.ensures
    (refused_hit (operation_passed c.in_ok-f.f c.in_ok-f.ensures c.in_ok-op.op c.in_ok-op.ensures) (length_test a.left a.right) _ (unequal_hits a.left a.right c.if-left-right.true) refl)

pub returns-then-left-gt-LONGEST_COLUMN : goal.returns-then-left-gt-LONGEST_COLUMN
returns-then-left-gt-LONGEST_COLUMN c =
    let a = c.args in
    rw c.at-then-left-gt-LONGEST_COLUMN.ensures
    (refused_hit (operation_passed c.in_ok-f.f c.in_ok-f.ensures c.in_ok-op.op c.in_ok-op.ensures) (length_test a.left a.right) _ (long_hits a.left a.right c.if-left-gt-LONGEST_COLUMN.true) refl)

pub returns-then-lent-row : goal.returns-then-lent-row
returns-then-lent-row c =
    let a = c.args in
    rw c.at-then-lent-row.ensures
    (refused_hit (length_passed c.in_ok-f.f c.in_ok-f.ensures c.in_ok-op.op c.in_ok-op.ensures c.if-left-right.false c.if-left-gt-LONGEST_COLUMN.false) (room_test a.row a.left a.lent) []
    (lt-ltb a.lent _ (omega arith)) refl)

pub returns-then-lent-row-2 : goal.returns-then-lent-row-2
returns-then-lent-row-2 c =
    let a = c.args in
    rw c.at-then-lent-row-2.ensures
    (refused_hit (length_passed c.in_ok-f.f c.in_ok-f.ensures c.in_ok-op.op c.in_ok-op.ensures c.if-left-right.false c.if-left-gt-LONGEST_COLUMN.false) (room_test a.row a.left a.lent) []
    (lt-ltb a.lent _ (omega arith)) refl)

pub returns : goal.returns
returns c =
    let a = c.args in
    let lengths = length_passed c.in_ok-f.f c.in_ok-f.ensures c.in_ok-op.op c.in_ok-op.ensures c.if-left-right.false c.if-left-gt-LONGEST_COLUMN.false in (
      passing_done (passing_both lengths (one_passes {t = room_test a.row a.left a.lent} (le-ltb a.lent _ (omega arith)) all_pass)),
      record { format_is = c.in_ok-f.ensures; operation_is = sym c.in_ok-op.ensures },
    )
