-- `text::inner::lines::push_refusal` meets its contract: the fields of the line stand behind one another.
use Rattle.std.proofs.Common.{◌≡◌, ℕ, List, [], ◌∷◌, ◌++◌, ◌≤◌, ap, ◌∙◌, length, length-append, arith}
use Rattle.text.specs.Text.{no_word, field, decimal, refusal_line}
use Rattle.text.proofs.Decimals.{number_digits}
use Rattle.text.proofs.Glyphs.{one_byte}
use Rattle.text.proofs.RowLines.{four_behind}
use Rattle.text.proofs.inner.lines.push_refusal.Goals as goal
use Rattle.text.proofs.inner.lines.push_refusal.Goals.{Start, After-push_str, After-push_number, After-push_number-2}

short : (c : Start) → (length (decimal c.args.number) ≤ 10) × (length (decimal c.args.place) ≤ 10)
short c = (number_digits c.args.number c.ranges.number.fits, number_digits c.args.place c.ranges.place.fits)

-- ---- the line so far, and its length
named : (c : After-push_str) → c.push_str.new.self.bytes ≡ c.args.page.now.bytes ++ no_word
named c = c.push_str.ensures.bytes

numbered : (c : After-push_number) → c.push_number.new.page.bytes ≡ c.args.page.now.bytes ++ no_word ++ field (decimal c.args.number)
numbered c = c.push_number.ensures ∙ ap (λ (l : List ℕ). l ++ field (decimal c.args.number)) (named (goal.at.After-push_number c).After-push_str)

placed : (c : After-push_number-2) → c.push_number-2.new.page.bytes ≡ c.args.page.now.bytes ++ no_word ++ field (decimal c.args.number) ++ field (decimal c.args.place)
placed c = c.push_number-2.ensures ∙ ap (λ (l : List ℕ). l ++ field (decimal c.args.place)) (numbered (goal.at.After-push_number-2 c).After-push_number)

pub push_number-requires : goal.push_number-requires
push_number-requires c =
    let t = goal.at.push_number-requires c in
    omega (arith, c.requires, short t.Start, ap length (named t.After-push_str), length-append c.args.page.now.bytes no_word)

pub push_number-requires-2 : goal.push_number-requires-2
push_number-requires-2 c =
    let t = goal.at.push_number-requires-2 c in
    let many = simp length-append at (ap length (numbered t.After-push_number)) in
    omega (arith, c.requires, short t.Start, many)

pub push-requires : goal.push-requires
push-requires c =
    let t = goal.at.push-requires c in
    let many = simp length-append at (ap length (placed t.After-push_number-2)) in
    (omega arith, omega (arith, c.requires, short t.Start, many, one_byte 10 (omega arith)))

pub returns : goal.returns
unfolding refusal_line
returns c =
    let a = c.args in
    c.push.ensures.ascii (omega arith)
    ∙ ap (λ (l : List ℕ). l ++ 10 ∷ []) (placed (goal.at.returns c).After-push_number-2)
    ∙ four_behind a.page.now.bytes no_word (field (decimal a.number)) (field (decimal a.place)) (10 ∷ [])
