-- `text::inner::lines::push_rows` meets its contract: after i turns the lines of the first i rows stand behind what was there.
use Rattle.std.proofs.Common.{◌≡◌, ◌++◌, take}
use Rattle.text.specs.Text.{row_lines}
use Rattle.text.proofs.inner.lines.push_rows.Given as goal

abbrev pub invariant-loop-row : goal.invariant-loop-row
invariant-loop-row l = l.page.bytes ≡ l.fn.page.bytes ++ row_lines l.n 0 (take l.row l.rows)
