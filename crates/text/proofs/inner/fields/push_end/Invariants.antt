-- `text::inner::fields::push_end` meets its contract: after i turns the first i hexadecimal digits stand behind the space.
use Rattle.std.proofs.Common.{◌≡◌, [], ◌∷◌, ◌++◌, ◌/◌, take}
use Rattle.text.specs.Text.{hex4}
use Rattle.text.proofs.inner.fields.push_end.Given as goal

abbrev pub invariant-loop-worth : goal.invariant-loop-worth
invariant-loop-worth l = l.page.bytes ≡ l.fn.page.bytes ++ 32 ∷ [] ++ take l.worth-index (hex4 (l.tile / 2))
