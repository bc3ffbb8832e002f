-- `signs::inner::multiply::some_products` meets its contract: each way of finding the products finds all.
use mathlib.Core.Path.{◌∙◌}
use Rattle.signs.proofs.Mixed.{mixed_left, one_sign_right, products_either_way}
use Rattle.signs.proofs.inner.multiply.some_products.Goals as goal

pub returns-then-is_mixed_by-2 : goal.returns-then-is_mixed_by-2
returns-then-is_mixed_by-2 c =
    let test = c.is_mixed_by-2.ensures in
    c.mixed_results-then-is_mixed_by-2.ensures
    ∙ products_either_way c.args.f.n c.args.f.wide_enough c.args.f.es
    (one_sign_right c.args.f.n c.args.y c.args.x test c.if-is_mixed_by-2.true c.requires.0 c.requires.2)
    (mixed_left c.args.f.n c.args.y c.args.x test c.if-is_mixed_by-2.true c.requires.1)
