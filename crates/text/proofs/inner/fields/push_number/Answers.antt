-- `text::inner::fields::push_number` meets its contract: the digits that the library writes stand behind the space.
use Rattle.std.proofs.Common.{◌≡◌, ℕ, List, [], ◌∷◌, ◌++◌, ap, ◌∙◌, length, append_assoc, length-append, arith}
use Rattle.text.specs.Text.{decimal}
use Rattle.text.proofs.Decimals.{library_digits}
use Rattle.text.proofs.inner.fields.push_number.Goals as goal
use Rattle.text.proofs.inner.fields.push_number.Goals.{After-format}

spelled : (c : After-format) → c.format.result.now ≡ decimal c.args.number
spelled c = c.format.ensures.text ∙ library_digits c.args.number (omega arith)

spaced : (c : After-format) → c.push.new.self.bytes ≡ c.args.page.now.bytes ++ 32 ∷ []
spaced c = c.push.ensures.ascii (omega arith)

pub push_str-requires : goal.push_str-requires
push_str-requires c =
    (omega arith, omega (arith, c.requires, ap length (spelled c), ap length (spaced c), length-append c.args.page.now.bytes (32 ∷ [])))

pub returns : goal.returns
returns c =
    let t = (goal.at.returns c).After-format in
    let page = c.args.page.now.bytes in
    c.push_str.ensures.bytes
    ∙ ap (λ (l : List ℕ). l ++ c.format.result.now) (spaced t)
    ∙ ap (λ (l : List ℕ). page ++ 32 ∷ [] ++ l) (spelled t)
    ∙ append_assoc page (32 ∷ []) (decimal c.args.number)
