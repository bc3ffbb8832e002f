-- `column::inner::plains::write_plain` meets its contract: after i turns the first i answers stand at the front, and the rest is as it was.
use Rattle.std.proofs.Common.{◌≡◌, ◌∙◌, true, length, arith}
use Rattle.std.proofs.lemmas.List.{length_push}
use Rattle.tiles.specs.Plain.{is_plain}
use Rattle.tiles.specs.Spread.{is_spread}
use Rattle.column.specs.Column.{answers_of}
use Rattle.call.specs.Operation.{number_of}
use Rattle.call.proofs.Copies.{copy_one, copy_whole}
use Rattle.column.proofs.Pairs.{length_answers}
use Rattle.column.proofs.Plains.{plain_at, way_plain, way_other}
use Rattle.column.proofs.Turns.{Turn, numbered_turn, numbered_end, answer_here}
use Rattle.column.proofs.inner.plains.write_plain.Goals as goal
use Rattle.column.proofs.inner.plains.write_plain.Goals.{In-Some}

turn : (c : In-Some) → Turn c.args.left.now c.args.right.now (length c.loop-i.yielded) c.in-Some.i c.in-Some.a.now c.in-Some.b.now
turn c =
    let l = c.loop-i in
    numbered_turn c.args.left.now c.args.right.now c.into_iter-i-iterator.result (cc) (cc) (cc) l.yielded l.i-iterator c.next.new.self l.yielded_by
    c.next.result (c.in-Some.i, (c.in-Some.a, c.in-Some.b)) c.in-Some.is c.next.ensures.steps

-- the words of this pair are such
plain : (c : In-Some) → (is_spread c.args.f.n c.in-Some.a.now ≡ true) × (is_plain c.args.f.n c.in-Some.b.now ≡ true)
plain c =
    let a = c.args in
    let t = turn c in
    rw (t.left_word, t.right_word)
    (plain_at a.f.n a.left.now a.right.now (way_plain a.f.n (number_of a.op) a.left.now a.right.now c.requires.plain) (length c.loop-i.yielded) t.left_here t.right_here)

pub plain_answer-requires : goal.plain_answer-requires
plain_answer-requires c =
    let a = c.args in
    let p = plain (goal.at.plain_answer-requires c).In-Some in
    (way_other a.f.n (number_of a.op) a.left.now a.right.now c.requires.plain, p.0, p.1)

pub loop-i-preserved : goal.loop-i-preserved
loop-i-preserved c =
    let a = c.args in
    let l = c.loop-i in
    let t = turn (goal.at.loop-i-preserved c).In-Some in
    let as_many = length_answers a.f.n a.f.es (number_of a.op) a.left.now a.right.now c.requires.fits.0 in
    rw (length_push l.yielded (c.in-Some.i, (c.in-Some.a, c.in-Some.b)), t.place)
    (copy_one a.out.now (answers_of a.f.n a.f.es (number_of a.op) a.left.now a.right.now) l.invariant (omega arith) (omega arith)
    (c.plain_answer.ensures ∙ answer_here a.f.n a.f.es (number_of a.op) t))

pub returns : goal.returns
returns c =
    let a = c.args in
    let l = c.loop-i in
    let as_many = length_answers a.f.n a.f.es (number_of a.op) a.left.now a.right.now c.requires.fits.0 in
    let end = numbered_end a.left.now a.right.now c.into_iter-i-iterator.result (cc) (cc) (cc) l.yielded l.i-iterator c.next.new.self l.yielded_by
    c.next.result c.in-None.is c.next.ensures.steps c.requires.fits.0 in
    copy_whole _ _ l.invariant end as_many
