-- `posit::compare::order_of` meets its contract: it compares the patterns with their top bits turned over, which order as the signed integers do.
use Rattle.std.proofs.Common.{arith}
use Rattle.std.proofs.lemmas.Cmp.{ranked}
use Rattle.posit.proofs.TurnedOrder.{by_turned}
use Rattle.posit.proofs.compare.order_of.Goals as goal

pub returns : goal.returns
returns c =
    by_turned c.args.f.n (omega arith) c.requires.0 c.requires.1 c.power32-half.ensures c.power32.ensures c.power32-2.ensures
    c.cmp.result (ranked _ _ c.cmp.result c.cmp.ensures)
