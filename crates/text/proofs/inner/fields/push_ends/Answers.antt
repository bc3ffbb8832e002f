-- `text::inner::fields::push_ends` meets its contract: the word is taken apart into its tiles, and each stands as its fields.
use Rattle.std.proofs.Common.{◌≡◌, ℕ, List, ◌++◌, ◌/◌, ◌%◌, ◌<◌, sym, ap, ◌∙◌, subst, length, append_assoc, length-append, arith}
use lib.Pow.{pow_pos}
use Rattle.word.specs.Word.{start_tile, end_tile}
use Rattle.text.specs.Text.{end_fields}
use Rattle.text.proofs.inner.fields.push_ends.Goals as goal
use Rattle.text.proofs.inner.fields.push_ends.Goals.{After-push_end}

pub nonzero_div-word : goal.nonzero_div-word
nonzero_div-word c = subst (λ (t : ℕ). 0 < t) (sym c.power-tiles.ensures) (pow_pos _)

pub nonzero_rem-word : goal.nonzero_rem-word
nonzero_rem-word c = subst (λ (t : ℕ). 0 < t) (sym c.power-tiles.ensures) (pow_pos _)

start_put : (c : After-push_end) → c.push_end.new.page.bytes ≡ c.args.page.now.bytes ++ end_fields (start_tile c.args.n c.args.word)
start_put c = c.push_end.ensures ∙ ap (λ (t : ℕ). c.args.page.now.bytes ++ end_fields (c.args.word / t)) c.power-tiles.ensures

pub push_end-requires-2 : goal.push_end-requires-2
push_end-requires-2 c =
    let t = (goal.at.push_end-requires-2 c).After-push_end in
    omega (arith, c.requires.1, ap length (start_put t), length-append c.args.page.now.bytes (end_fields (start_tile c.args.n c.args.word)))

pub returns : goal.returns
returns c =
    let t = (goal.at.returns c).After-push_end in
    let page = c.args.page.now.bytes in
    let start = end_fields (start_tile c.args.n c.args.word) in
    c.push_end-2.ensures
    ∙ ap (λ (l : List ℕ). l ++ end_fields (c.args.word % c.power-tiles.result)) (start_put t)
    ∙ ap (λ (t : ℕ). page ++ start ++ end_fields (c.args.word % t)) c.power-tiles.ensures
    ∙ append_assoc page start (end_fields (end_tile c.args.n c.args.word))
