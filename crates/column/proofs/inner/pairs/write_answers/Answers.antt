-- `column::inner::pairs::write_answers` meets its contract: after i turns the first i answers stand at the front, and the rest is as it was.
use Rattle.std.proofs.Common.{◌∙◌, length, arith}
use Rattle.std.proofs.lemmas.List.{length_push}
use Rattle.column.specs.Accepted.{PairFits}
use Rattle.column.specs.Column.{answers_of}
use Rattle.call.proofs.Tests.{passing_of}
use Rattle.call.specs.Operation.{number_of}
use Rattle.call.proofs.Answered.{accepts}
use Rattle.call.proofs.Copies.{copy_one, copy_whole}
use Rattle.column.proofs.Pairs.{pairs_refusing, pair_passes, length_answers}
use Rattle.column.proofs.Turns.{Turn, numbered_turn, numbered_end, answer_here}
use Rattle.column.proofs.inner.pairs.write_answers.Goals as goal
use Rattle.column.proofs.inner.pairs.write_answers.Goals.{In-Some}

turn : (c : In-Some) → Turn c.args.left.now c.args.right.now (length c.loop-i.yielded) c.in-Some.i c.in-Some.a.now c.in-Some.b.now
turn c =
    let l = c.loop-i in
    numbered_turn c.args.left.now c.args.right.now c.into_iter-i-iterator.result (cc) (cc) (cc) l.yielded l.i-iterator c.next.new.self l.yielded_by
    c.next.result (c.in-Some.i, (c.in-Some.a, c.in-Some.b)) c.in-Some.is c.next.ensures.steps

-- the words of this pair are real ranges
fits : (c : In-Some) → PairFits c.args.f.n c.args.f.es (number_of c.args.op) c.in-Some.a.now c.in-Some.b.now
fits c =
    let a = c.args in
    let t = turn c in
    rw (t.left_word, t.right_word)
    (pair_passes a.f.n a.f.es (number_of a.op) a.left.now a.right.now c.requires.fits.0
    (passing_of (pairs_refusing a.f.n a.f.es (number_of a.op) 0 a.left.now a.right.now) (accepts c.requires.passes)) (length c.loop-i.yielded) t.left_here)

pub operate_words-requires : goal.operate_words-requires
operate_words-requires c =
    let f = fits (goal.at.operate_words-requires c).In-Some in
    (f.left_real, f.right_real)

pub loop-i-preserved : goal.loop-i-preserved
loop-i-preserved c =
    let a = c.args in
    let l = c.loop-i in
    let t = turn (goal.at.loop-i-preserved c).In-Some in
    let as_many = length_answers a.f.n a.f.es (number_of a.op) a.left.now a.right.now c.requires.fits.0 in
    rw (length_push l.yielded (c.in-Some.i, (c.in-Some.a, c.in-Some.b)), t.place)
    (copy_one a.out.now (answers_of a.f.n a.f.es (number_of a.op) a.left.now a.right.now) l.invariant (omega arith) (omega arith)
    (c.operate_words.ensures ∙ answer_here a.f.n a.f.es (number_of a.op) t))

pub returns : goal.returns
returns c =
    let a = c.args in
    let l = c.loop-i in
    let as_many = length_answers a.f.n a.f.es (number_of a.op) a.left.now a.right.now c.requires.fits.0 in
    let end = numbered_end a.left.now a.right.now c.into_iter-i-iterator.result (cc) (cc) (cc) l.yielded l.i-iterator c.next.new.self l.yielded_by
    c.next.result c.in-None.is c.next.ensures.steps c.requires.fits.0 in
    copy_whole _ _ l.invariant end as_many
