-- `text::inner::fields::mark_letter` meets its contract: 0 is closed and any other mark is open.
use Rattle.text.proofs.Glyphs.{closed_mark, open_mark}
use Rattle.text.proofs.inner.fields.mark_letter.Goals as goal

pub returns-then-mark-eq0 : goal.returns-then-mark-eq0
returns-then-mark-eq0 c = closed_mark c.args.mark c.if-mark-eq0.true

pub returns-else-mark-eq0 : goal.returns-else-mark-eq0
returns-else-mark-eq0 c = open_mark c.args.mark c.if-mark-eq0.false
