-- `signs::inner::multiply::multiply_cells` meets its contract: an empty operand has no products, and those of others are found as cells.
use native.Mathlib.Omega.{arith}
use Rattle.posit.proofs.Mirror.{power_wider}
use Rattle.word.proofs.Tiles.{half_large}
use Rattle.signs.proofs.NoOperand.{left_empty_product, right_empty_product}
use Rattle.signs.proofs.ByStages.{product_there}
use Rattle.signs.proofs.inner.multiply.multiply_cells.Goals as goal

pub joined-requires : goal.joined-requires
joined-requires c = omega (arith, power_wider c.args.f.n, half_large c.args.f.wide_enough)

pub returns-then-x : goal.returns-then-x
returns-then-x c =
    left_empty_product c.args.f.n c.args.f.wide_enough c.args.f.es c.args.x c.args.y c.joined.ensures c.requires.0 c.if-x.true

pub joined-requires-then-y : goal.joined-requires-then-y
joined-requires-then-y c = omega (arith, power_wider c.args.f.n, half_large c.args.f.wide_enough)

pub returns-then-y : goal.returns-then-y
returns-then-y c =
    right_empty_product c.args.f.n c.args.f.wide_enough c.args.f.es c.args.x c.args.y c.joined-then-y.ensures c.requires.1 c.if-y.true

pub word_of-requires : goal.word_of-requires
word_of-requires c =
    (rw c.some_products.ensures (product_there c.args.f.n c.args.f.es c.args.f.wide_enough c.args.x c.args.y))
