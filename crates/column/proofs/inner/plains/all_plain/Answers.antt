-- `column::inner::plains::all_plain` meets its contract: all pairs are such where the faults joined so far are below 2^63 and the pairs left are such.
use Rattle.std.proofs.Common.{sym, ap, ◌∙◌, length, arith}
use Rattle.std.proofs.lemmas.List.{length_push}
use Rattle.std.proofs.lemmas.Slice.Zip.{zip_turn, zip_end}
use Rattle.tiles.specs.Plain.{is_plain}
use Rattle.tiles.specs.Spread.{is_spread}
use Rattle.column.proofs.Plains.{faults_next, faults_end}
use Rattle.column.proofs.inner.plains.all_plain.Goals as goal

pub loop-a-preserved : goal.loop-a-preserved
loop-a-preserved c =
    let a = c.args in
    let l = c.loop-a in
    let turn = zip_turn a.left.now a.right.now l.yielded c.into_iter-a-iterator.result l.a-iterator c.next.new.self c.next.result (cc) (cc) l.yielded_by (c.in-Some.a, c.in-Some.b) c.in-Some.is c.next.ensures.steps in
    rw (length_push l.yielded (c.in-Some.a, c.in-Some.b))
    (l.invariant
    ∙ faults_next a.n (length l.yielded) l.faults c.spread_fault.result c.plain_fault.result a.left.now a.right.now turn.0 turn.1
    (c.spread_fault.ensures ∙ ap (is_spread a.n) (turn.2 0)) (c.plain_fault.ensures ∙ ap (is_plain a.n) (turn.3 0)))

pub returns : goal.returns
returns c =
    let a = c.args in
    let l = c.loop-a in
    let end = zip_end a.left.now a.right.now l.yielded c.into_iter-a-iterator.result l.a-iterator c.next.new.self c.next.result (cc) (cc) l.yielded_by c.in-None.is c.next.ensures.steps in
    sym (l.invariant ∙ faults_end a.n (length l.yielded) l.faults a.left.now _ (omega arith))
