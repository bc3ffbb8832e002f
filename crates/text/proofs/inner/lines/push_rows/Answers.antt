-- `text::inner::lines::push_rows` meets its contract: after i turns the lines of the first i rows stand behind what was there.
use Rattle.std.proofs.Common.{◌≡◌, ℕ, List, ◌++◌, ◌+◌, ◌≤◌, sym, ap, ◌∙◌, length, get_or, take, take_all, length-append, append_assoc, append-nil, arith}
use Rattle.std.proofs.Math.Seq.{length-take-le}
use Rattle.text.specs.Text.{row_line, row_lines}
use Rattle.text.proofs.RowLines.{next_line, lines_length}
use Rattle.text.proofs.inner.lines.push_rows.Goals as goal
use Rattle.text.proofs.inner.lines.push_rows.Goals.{In-loop-row}

pub loop-row-init : goal.loop-row-init
unfolding row_lines
loop-row-init c = sym (append-nil c.args.page.now.bytes)

room : (c : In-loop-row) → length c.loop-row.page.bytes + 21 ≤ 2048
room c =
    let a = c.args in
    let row = c.loop-row.row in
    let so_far = take row a.rows.now in
    let count : length so_far ≡ row = length-take-le row a.rows.now (omega arith) in
    omega (
      arith,
      c.requires.1,
      c.requires.2,
      ap length c.loop-row.invariant,
      length-append a.page.now.bytes (row_lines a.n 0 so_far),
      count,
      lines_length a.n 0 so_far (omega (arith, c.requires.1, count)),
    )

pub push_row-requires : goal.push_row-requires
push_row-requires c = (c.requires.0, omega (arith, c.requires.1), room (goal.at.push_row-requires c).In-loop-row)

pub loop-row-preserved : goal.loop-row-preserved
loop-row-preserved c =
    let a = c.args in
    let row = c.loop-row.row in
    let page = a.page.now.bytes in
    let line = row_line a.n row (get_or a.rows.now row 0) in
    c.push_row.ensures
    ∙ ap (λ (l : List ℕ). l ++ line) c.loop-row.invariant
    ∙ append_assoc page (row_lines a.n 0 (take row a.rows.now)) line
    ∙ ap (λ (l : List ℕ). page ++ l) (sym (next_line a.n a.rows.now row c.loop-row-test.true))

pub returns : goal.returns
returns c =
    c.loop-row.invariant ∙ ap (λ (rows : List ℕ). c.args.page.now.bytes ++ row_lines c.args.n 0 rows) (take_all c.loop-row.row c.args.rows.now (omega arith))
