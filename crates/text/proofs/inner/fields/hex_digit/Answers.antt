-- `text::inner::fields::hex_digit` meets its contract: the library's digit is that of the definition.
use Rattle.std.proofs.Common.{Option, ℕ, ◌<◌, ◌∙◌, subst}
use Rattle.std.specs.Char.{digit_char}
use Rattle.std.specs.Option.{SomeIff}
use Rattle.text.proofs.Glyphs.{library_digit}
use Rattle.text.proofs.inner.fields.hex_digit.Goals as goal

pub returns : goal.returns
returns c =
    (subst (λ (o : Option ℕ). SomeIff o (c.args.d < 16) (digit_char c.args.d)) c.unwrap.ensures c.from_digit.ensures.value).1 ∙ library_digit c.args.d
