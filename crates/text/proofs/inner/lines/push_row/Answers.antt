-- `text::inner::lines::push_row` meets its contract: the fields of the line stand behind one another.
use Rattle.std.proofs.Common.{◌≡◌, ℕ, List, [], ◌∷◌, ◌++◌, ap, ◌∙◌, length, length-append, arith}
use Rattle.text.specs.Text.{row_word, field, decimal, range_fields, row_line}
use Rattle.text.proofs.Decimals.{row_digits}
use Rattle.text.proofs.Glyphs.{one_byte}
use Rattle.text.proofs.RowLines.{four_behind}
use Rattle.text.proofs.inner.lines.push_row.Goals as goal
use Rattle.text.proofs.inner.lines.push_row.Goals.{After-push_str, After-push_number, After-push_ends}

-- ---- the line so far, and its length
named : (c : After-push_str) → c.push_str.new.self.bytes ≡ c.args.page.now.bytes ++ row_word
named c = c.push_str.ensures.bytes

numbered : (c : After-push_number) → c.push_number.new.page.bytes ≡ c.args.page.now.bytes ++ row_word ++ field (decimal c.args.row)
numbered c = c.push_number.ensures ∙ ap (λ (l : List ℕ). l ++ field (decimal c.args.row)) (named (goal.at.After-push_number c).After-push_str)

ended : (c : After-push_ends) → c.push_ends.new.page.bytes ≡ c.args.page.now.bytes ++ row_word ++ field (decimal c.args.row) ++ range_fields c.args.n c.args.word
ended c = c.push_ends.ensures ∙ ap (λ (l : List ℕ). l ++ range_fields c.args.n c.args.word) (numbered (goal.at.After-push_ends c).After-push_number)

pub push_number-requires : goal.push_number-requires
push_number-requires c =
    omega (arith, c.requires.2, row_digits c.args.row c.requires.1, ap length (named (goal.at.push_number-requires c).After-push_str), length-append c.args.page.now.bytes row_word)

pub push_ends-requires : goal.push_ends-requires
push_ends-requires c =
    let many = simp length-append at (ap length (numbered (goal.at.push_ends-requires c).After-push_number)) in
    (c.requires.0, omega (arith, c.requires.2, row_digits c.args.row c.requires.1, many))

pub push-requires : goal.push-requires
push-requires c =
    let many = simp length-append at (ap length (ended (goal.at.push-requires c).After-push_ends)) in
    (omega arith, omega (arith, c.requires.2, row_digits c.args.row c.requires.1, many, one_byte 10 (omega arith)))

pub returns : goal.returns
unfolding row_line
returns c =
    let a = c.args in
    c.push.ensures.ascii (omega arith)
    ∙ ap (λ (l : List ℕ). l ++ 10 ∷ []) (ended (goal.at.returns c).After-push_ends)
    ∙ four_behind a.page.now.bytes row_word (field (decimal a.row)) (range_fields a.n a.word) (10 ∷ [])
