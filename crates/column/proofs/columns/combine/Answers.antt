-- `column::columns::combine` meets its contract: the limits are judged, then the pairs unless all their words are plain,
-- which passes every test of a pair, and the part from the row on is written.
use Rattle.std.proofs.Common.{◌≡◌, List, ◌++◌, ℕ, ◌-◌, sym, ap, ◌∙◌, length, take, drop, arith}
use lib.ListN.{length-take, length-drop}
use Rattle.std.specs.Prelude.{Ok}
use Rattle.call.specs.Written.{Writes, overwritten}
use Rattle.call.proofs.Answered.{passes_on, accepts}
use Rattle.call.proofs.Said.{refused_first, refused_next}
use Rattle.call.proofs.Tests.{Passing, passing_of, passing_both, passing_done}
use Rattle.call.proofs.Written.{later_refused, later_done, part_back}
use Rattle.posit.proofs.Formats.{within}
use Rattle.column.specs.Accepted.{ColumnFits}
use Rattle.column.specs.Column.{column_limits, pairs_tests, verdict_of_columns, answers_of}
use Rattle.column.proofs.Limits.{column_refusing, column_fits}
use Rattle.column.proofs.Pairs.{pairs_refusing, length_answers}
use Rattle.column.proofs.Plains.{plain_passes, way_plain}
use Rattle.column.proofs.columns.combine.Goals as goal
use Rattle.column.proofs.columns.combine.Goals.{In_ok-f}

-- ---- the tests that have passed
limits_passed : (c : In_ok-f) → Passing (column_limits c.args.n c.args.es c.args.op (length c.args.left.now) (length c.args.right.now) c.args.row (length c.args.lent.now))
limits_passed c =
    let a = c.args in
    passing_of (column_refusing a.n a.es a.op (length a.left.now) (length a.right.now) a.row (length a.lent.now)) (accepts c.in_ok-f.ensures.0)

fit : (c : In_ok-f) → ColumnFits c.args.n c.args.es c.args.op (length c.args.left.now) (length c.args.right.now) c.args.row (length c.args.lent.now)
fit c = column_fits (limits_passed c)

-- where all tests have passed the answers stand in the part from the row on
module _ (n es op : ℕ) (left right : List ℕ) (row : ℕ) (lent : List ℕ) (limits : Passing (column_limits n es op (length left) (length right) row (length lent)))
    (pairs : Passing (pairs_tests n es op 0 left right)) {part : List ℕ} (e : part ≡ answers_of n es op left right ++ drop (length left) (take (length lent - row) (drop row lent))) where
  abbrev words : List ℕ
  words = answers_of n es op left right

  fits : ColumnFits n es op (length left) (length right) row (length lent)
  fits = column_fits limits

  as_many : length words ≡ length left
  as_many = length_answers n es op left right fits.as_long

  in_place : take row lent ++ (part ++ drop (length lent - row) (drop row lent)) ≡ overwritten row words lent
  in_place =
      let behind : List ℕ = drop (length lent - row) (drop row lent) in
      ap (λ (l : List ℕ). take row lent ++ (l ++ behind)) e
      ∙ ap (λ (k : ℕ). take row lent ++ (words ++ drop k (take (length lent - row) (drop row lent)) ++ behind)) (sym as_many)
      ∙ part_back row words lent (omega (arith, as_many, fits.room))

  written : Writes (verdict_of_columns n es op left right row (length lent)) row words lent (take row lent ++ (part ++ drop (length lent - row) (drop row lent))) (Ok (length left))
  unfolding verdict_of_columns
  written = let v = passing_done (passing_both limits pairs) in record { count = (v, sym as_many); later = later_done row words lent v in_place }

pub returns-in_err-f : goal.returns-in_err-f
unfolding verdict_of_columns
returns-in_err-f c =
    let a = c.args in
    let v = refused_first (column_limits a.n a.es a.op (length a.left.now) (length a.right.now) a.row (length a.lent.now)) (pairs_tests a.n a.es a.op 0 a.left.now a.right.now) _ c.in_err-f.ensures in
    record { count = passes_on _ _ _ c.from_residual.ensures v; later = later_refused _ a.row _ a.lent.now v }

pub takes_plain_way-requires : goal.takes_plain_way-requires
takes_plain_way-requires c = (c.in_ok-f.f.wide_enough, c.in_ok-f.f.not_too_wide, (fit (goal.at.takes_plain_way-requires c).In_ok-f).as_long)

pub offset_bounds-lent-row : goal.offset_bounds-lent-row
offset_bounds-lent-row c =
    record { fits = omega (arith, (fit (goal.at.offset_bounds-lent-row c).In_ok-f).room, c.well_formed.1.1.1.1.1.1.0.1) }

pub slice_bounds-write_plain-count : goal.slice_bounds-write_plain-count
slice_bounds-write_plain-count c = omega (arith, (fit (goal.at.slice_bounds-write_plain-count c).In_ok-f).room)

pub slice_bounds-write_plain-start : goal.slice_bounds-write_plain-start
slice_bounds-write_plain-start c = omega (arith, (fit (goal.at.slice_bounds-write_plain-start c).In_ok-f).room)

pub write_plain-requires-clause-fits : goal.write_plain-requires-clause-fits
write_plain-requires-clause-fits c =
    let f = fit (goal.at.write_plain-requires-clause-fits c).In_ok-f in
    (f.as_long, simp (length-take, length-drop) (omega (arith, f.room)))

pub write_plain-requires-clause-plain : goal.write_plain-requires-clause-plain
write_plain-requires-clause-plain c = rw (← c.in_ok-f.ensures.1.operation_is) (sym c.if-takes_plain_way.ensures)

pub overflow_cast-result : goal.overflow_cast-result
overflow_cast-result c = record { fits = omega (arith, (fit (goal.at.overflow_cast-result c).In_ok-f).short) }

pub returns-then-takes_plain_way : goal.returns-then-takes_plain_way
returns-then-takes_plain_way c =
    let a = c.args in
    let k = c.in_ok-f.ensures.1 in
    let f = c.in_ok-f.f in
    written a.n a.es a.op a.left.now a.right.now a.row a.lent.now (limits_passed (goal.at.returns-then-takes_plain_way c).In_ok-f)
    (rw (k.format_is.0, k.format_is.1) (plain_passes (within f) a.op 0 a.left.now a.right.now (way_plain f.n a.op a.left.now a.right.now (sym c.if-takes_plain_way.ensures))))
    (rw (k.format_is.0, k.format_is.1, k.operation_is) c.write_plain.ensures)

pub judge_pairs-requires : goal.judge_pairs-requires
judge_pairs-requires c = let f = fit (goal.at.judge_pairs-requires c).In_ok-f in (f.as_long, f.short)

pub returns-in_err-judge_pairs : goal.returns-in_err-judge_pairs
unfolding verdict_of_columns
returns-in_err-judge_pairs c =
    let a = c.args in
    let k = c.in_ok-f.ensures.1 in
    let v = refused_next (limits_passed (goal.at.returns-in_err-judge_pairs c).In_ok-f) (pairs_tests a.n a.es a.op 0 a.left.now a.right.now)
    (rw (k.format_is.0, k.format_is.1) c.in_err-judge_pairs.ensures) in
    record { count = passes_on _ _ _ c.from_residual-in_err-judge_pairs.ensures v; later = later_refused _ a.row _ a.lent.now v }

pub offset_bounds-lent-row-2 : goal.offset_bounds-lent-row-2
offset_bounds-lent-row-2 c =
    record { fits = omega (arith, (fit (goal.at.offset_bounds-lent-row-2 c).In_ok-f).room, c.well_formed.1.1.1.1.1.1.0.1) }

pub slice_bounds-write_answers-count : goal.slice_bounds-write_answers-count
slice_bounds-write_answers-count c = omega (arith, (fit (goal.at.slice_bounds-write_answers-count c).In_ok-f).room)

pub slice_bounds-write_answers-start : goal.slice_bounds-write_answers-start
slice_bounds-write_answers-start c = omega (arith, (fit (goal.at.slice_bounds-write_answers-start c).In_ok-f).room)

pub write_answers-requires-clause-fits : goal.write_answers-requires-clause-fits
write_answers-requires-clause-fits c =
    let f = fit (goal.at.write_answers-requires-clause-fits c).In_ok-f in
    (f.as_long, simp (length-take, length-drop) (omega (arith, f.room)))

pub write_answers-requires-clause-passes : goal.write_answers-requires-clause-passes
write_answers-requires-clause-passes c = rw (← c.in_ok-f.ensures.1.operation_is) c.in_ok-judge_pairs.ensures.0

pub overflow_cast-result-2 : goal.overflow_cast-result-2
overflow_cast-result-2 c = record { fits = omega (arith, (fit (goal.at.overflow_cast-result-2 c).In_ok-f).short) }

pub returns : goal.returns
returns c =
    let a = c.args in
    let k = c.in_ok-f.ensures.1 in
    let f = c.in_ok-f.f in
    written a.n a.es a.op a.left.now a.right.now a.row a.lent.now (limits_passed (goal.at.returns c).In_ok-f)
    (rw (k.format_is.0, k.format_is.1) (passing_of (pairs_refusing f.n f.es a.op 0 a.left.now a.right.now) (accepts c.in_ok-judge_pairs.ensures.0)))
    (rw (k.format_is.0, k.format_is.1, k.operation_is) c.write_answers.ensures)
