-- `text::inner::fields::push_end` meets its contract: after i turns the first i hexadecimal digits stand behind the space.
use Rattle.std.proofs.Common.{◌≡◌, ℕ, List, [], ◌∷◌, ◌++◌, ◌+◌, ◌/◌, ◌%◌, ◌<◌, ◌≤◌, sym, ap, ◌∙◌, subst, length, get_or, take, length-append, append_assoc, arith}
use Rattle.std.proofs.lemmas.List.{take_more}
use Rattle.std.proofs.Math.Seq.{length-take-le}
use Rattle.text.specs.Text.{hex4}
use Rattle.text.proofs.Glyphs.{digit_ascii, mark_ascii, hex_digit_at, one_byte}
use Rattle.text.proofs.inner.fields.push_end.Goals as goal
use Rattle.text.proofs.inner.fields.push_end.Goals.{After-hex_digit, After-loop-worth, After-mark_letter}

-- ---- in a turn: the next digit
next_digit : (c : After-hex_digit) → c.hex_digit.result ≡ get_or (hex4 (c.args.tile / 2)) c.loop-worth.worth-index 0
next_digit c = c.hex_digit.ensures ∙ hex_digit_at (c.args.tile / 2) c.loop-worth.worth-index c.loop-worth-test.true

digit_short : (c : After-hex_digit) → c.hex_digit.result < 128
digit_short c = subst (λ (d : ℕ). d < 128) (sym c.hex_digit.ensures) (digit_ascii _ (omega arith))

so_far : (page digits : List ℕ) (i : ℕ) {now : List ℕ} → now ≡ page ++ 32 ∷ [] ++ take i digits → i ≤ length digits → length now ≡ length page + 1 + i
so_far page digits i e h =
    ap length e ∙ length-append (page ++ 32 ∷ []) (take i digits) ∙ omega (arith, length-append page (32 ∷ []), length-take-le i digits h)

pub push-requires-in-loop-worth : goal.push-requires-in-loop-worth
push-requires-in-loop-worth c =
    let t = (goal.at.push-requires-in-loop-worth c).After-hex_digit in
    let many = so_far c.args.page.now.bytes (hex4 (c.args.tile / 2)) c.loop-worth.worth-index c.loop-worth.invariant (omega arith) in
    (omega arith, omega (arith, c.requires, many, one_byte c.hex_digit.result (digit_short t)))

pub loop-worth-preserved : goal.loop-worth-preserved
loop-worth-preserved c =
    let t = (goal.at.loop-worth-preserved c).After-hex_digit in
    let page = c.args.page.now.bytes in
    let digits = hex4 (c.args.tile / 2) in
    let i = c.loop-worth.worth-index in
    c.push-in-loop-worth.ensures.ascii (digit_short t)
    ∙ ap (λ (l : List ℕ). l ++ c.hex_digit.result ∷ []) c.loop-worth.invariant
    ∙ ap (λ (d : ℕ). page ++ 32 ∷ [] ++ take i digits ++ d ∷ []) (next_digit t)
    ∙ append_assoc (page ++ 32 ∷ []) (take i digits) (get_or digits i 0 ∷ [])
    ∙ ap (λ (l : List ℕ). page ++ 32 ∷ [] ++ l) (sym (take_more digits i 0 c.loop-worth-test.true))

-- ---- behind the digits: a space and the mark
mark_short : (c : After-mark_letter) → c.mark_letter.result < 128
mark_short c = subst (λ (m : ℕ). m < 128) (sym c.mark_letter.ensures) (mark_ascii (c.args.tile % 2))

digits_put : (c : After-loop-worth) → c.loop-worth.page.bytes ≡ c.args.page.now.bytes ++ 32 ∷ [] ++ hex4 (c.args.tile / 2)
digits_put c =
    let end : c.loop-worth.worth-index ≡ 4 = omega arith in
    c.loop-worth.invariant ∙ ap (λ (i : ℕ). c.args.page.now.bytes ++ 32 ∷ [] ++ take i (hex4 (c.args.tile / 2))) end

spaced : (c : After-mark_letter) → c.push-2.new.self.bytes ≡ c.args.page.now.bytes ++ 32 ∷ [] ++ hex4 (c.args.tile / 2) ++ 32 ∷ []
spaced c = c.push-2.ensures.ascii (omega arith) ∙ ap (λ (l : List ℕ). l ++ 32 ∷ []) (digits_put (goal.at.After-mark_letter c).After-loop-worth)

pub push-requires-3 : goal.push-requires-3
push-requires-3 c =
    let page = c.args.page.now.bytes in
    let many : length c.push-2.new.self.bytes ≡ length page + 6 =
    ap length (spaced c) ∙ simp length-append (omega arith) in
    (omega arith, omega (arith, c.requires, many, one_byte c.mark_letter.result (mark_short c)))

pub returns : goal.returns
returns c =
    let t = (goal.at.returns c).After-mark_letter in
    let page = c.args.page.now.bytes in
    c.push-3.ensures.ascii (mark_short t)
    ∙ ap (λ (l : List ℕ). l ++ c.mark_letter.result ∷ []) (spaced t)
    ∙ ap (λ (m : ℕ). page ++ 32 ∷ [] ++ hex4 (c.args.tile / 2) ++ 32 ∷ [] ++ m ∷ []) c.mark_letter.ensures
    ∙ simp append_assoc
