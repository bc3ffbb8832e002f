-- `column::inner::divisor::judge_divisor` meets its contract: only a division is refused, and only where 0 is a member of its divisor.
use Rattle.std.proofs.Common.{refl, ◌∙◌, [], ⊎_elim}
use Rattle.call.specs.Operation.{plus, minus, times, over}
use Rattle.call.proofs.FirstHit.{hits, passes, none_hits}
use Rattle.column.specs.Refusal.{divisor_test_at}
use Rattle.column.proofs.Pairs.{divisor_hits, divisor_passes}
use Rattle.column.proofs.inner.divisor.judge_divisor.Goals as goal

pub returns-then-has_zero : goal.returns-then-has_zero
returns-then-has_zero c =
    let a = c.args in
    rw (c.in-Divide.is, c.at.ensures) (hits (divisor_test_at a.f.n a.f.es a.place over a.b) [] (divisor_hits a.f.n a.f.es a.place over a.b c.has_zero.ensures refl c.if-has_zero.true))

pub returns-else-has_zero : goal.returns-else-has_zero
returns-else-has_zero c =
    let a = c.args in
    rw c.in-Divide.is (passes (divisor_test_at a.f.n a.f.es a.place over a.b) [] (divisor_passes a.f.n a.f.es a.place over a.b c.has_zero.ensures c.if-has_zero.false) ∙ none_hits, tt)

pub returns-in-Add : goal.returns-in-Add
returns-in-Add c =
    let a = c.args in
    ⊎_elim (λ e. rw e (passes (divisor_test_at a.f.n a.f.es a.place plus a.b) [] refl ∙ none_hits, tt))
    (⊎_elim (λ e. rw e (passes (divisor_test_at a.f.n a.f.es a.place minus a.b) [] refl ∙ none_hits, tt))
    (λ e. rw e (passes (divisor_test_at a.f.n a.f.es a.place times a.b) [] refl ∙ none_hits, tt)))
    c.in-Add.is
