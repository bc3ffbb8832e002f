-- `reading::reading::take_in` meets its contract: its two tests are those of the verdict, in their order, and what passes both is answered by its cells.
use Rattle.std.proofs.Common.{sym, ◌∙◌}
use Rattle.call.proofs.Answered.{passes_on}
use Rattle.posit.proofs.Formats.{within}
use Rattle.reading.proofs.Readings.{reading_outside, reading_bad, reading_done}
use Rattle.reading.proofs.reading.take_in.Goals as goal

pub returns-in_err-f : goal.returns-in_err-f
returns-in_err-f c = passes_on _ _ _ c.from_residual.ensures (rw c.in_err-f.ensures.0 (reading_outside _ _ _ _ c.in_err-f.ensures.1))

pub returns-then-bad_reading : goal.returns-then-bad_reading
returns-then-bad_reading c =
    rw (c.at.ensures, c.in_ok-f.ensures.0, c.in_ok-f.ensures.1) (reading_bad _ _ _ _ (within c.in_ok-f.f) (sym c.bad_reading.ensures ∙ c.if-bad_reading.true))

pub reading_word-requires : goal.reading_word-requires
reading_word-requires c = sym c.bad_reading.ensures ∙ c.if-bad_reading.false

pub returns : goal.returns
returns c =
    rw (c.in_ok-f.ensures.0, c.in_ok-f.ensures.1)
    (reading_done _ _ _ _ (within c.in_ok-f.f) (sym c.bad_reading.ensures ∙ c.if-bad_reading.false), c.reading_word.ensures)
