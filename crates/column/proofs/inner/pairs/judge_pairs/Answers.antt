-- `column::inner::pairs::judge_pairs` meets its contract: while no pair is refused, the verdict of all pairs is that of the pairs left.
use Rattle.std.proofs.Common.{◌≡◌, ◌+◌, ◌++◌, ap, ◌∙◌, length, drop, arith}
use Rattle.std.proofs.lemmas.List.{length_push}
use Rattle.call.specs.Verdict.{first_hit}
use Rattle.call.proofs.FirstHit.{none_hits}
use Rattle.column.specs.Column.{pair_tests, pairs_tests}
use Rattle.call.proofs.Tests.{passing_of, passing_skips}
use Rattle.call.proofs.Answered.{passes_on, accepts}
use Rattle.call.proofs.Said.{refused_first}
use Rattle.column.proofs.Pairs.{pair_refusing, pairs_next, pairs_end}
use Rattle.column.proofs.Turns.{Turn, numbered_turn, numbered_end}
use Rattle.column.proofs.inner.pairs.judge_pairs.Goals as goal
use Rattle.column.proofs.inner.pairs.judge_pairs.Goals.{In-Some}

turn : (c : In-Some) → Turn c.args.left.now c.args.right.now (length c.loop-i.yielded) c.in-Some.i c.in-Some.a.now c.in-Some.b.now
turn c =
    let l = c.loop-i in
    numbered_turn c.args.left.now c.args.right.now c.into_iter-i-iterator.result (cc) (cc) (cc) l.yielded l.i-iterator c.next.new.self l.yielded_by
    c.next.result (c.in-Some.i, (c.in-Some.a, c.in-Some.b)) c.in-Some.is c.next.ensures.steps

-- the verdict of all pairs is that of this pair and those behind it
next_pair : (c : In-Some) → let a = c.args in let k = length c.loop-i.yielded in
    first_hit (pairs_tests a.f.n a.f.es a.op 0 a.left.now a.right.now)
    ≡ first_hit (pair_tests a.f.n a.f.es a.op c.in-Some.i c.in-Some.a.now c.in-Some.b.now ++ pairs_tests a.f.n a.f.es a.op (k + 1) (drop (k + 1) a.left.now) (drop (k + 1) a.right.now))
next_pair c =
    let a = c.args in
    let k = length c.loop-i.yielded in
    let t = turn c in
    rw (t.place, t.left_word, t.right_word) (c.loop-i.invariant ∙ ap first_hit (pairs_next a.f.n a.f.es a.op k a.left.now a.right.now t.left_here t.right_here))

pub returns-in_err-judge_pair : goal.returns-in_err-judge_pair
returns-in_err-judge_pair c =
    let t = (goal.at.returns-in_err-judge_pair c).In-Some in
    let a = t.args in
    passes_on _ _ _ c.from_residual.ensures
    (next_pair t ∙ refused_first (pair_tests a.f.n a.f.es a.op t.in-Some.i t.in-Some.a.now t.in-Some.b.now) _ _ c.in_err-judge_pair.ensures)

pub loop-i-preserved : goal.loop-i-preserved
loop-i-preserved c =
    let t = (goal.at.loop-i-preserved c).In-Some in
    let a = t.args in
    rw (length_push t.loop-i.yielded (t.in-Some.i, (t.in-Some.a, t.in-Some.b)))
    (next_pair t ∙ passing_skips (passing_of (pair_refusing a.f.n a.f.es a.op t.in-Some.i t.in-Some.a.now t.in-Some.b.now) (accepts c.in_ok-judge_pair.ensures.0)) _)

pub returns : goal.returns
returns c =
    let a = c.args in
    let l = c.loop-i in
    let end = numbered_end a.left.now a.right.now c.into_iter-i-iterator.result (cc) (cc) (cc) l.yielded l.i-iterator c.next.new.self l.yielded_by
    c.next.result c.in-None.is c.next.ensures.steps c.requires.0 in
    (l.invariant ∙ ap first_hit (pairs_end a.f.n a.f.es a.op (length l.yielded) a.left.now _ (omega arith)) ∙ none_hits, tt)
