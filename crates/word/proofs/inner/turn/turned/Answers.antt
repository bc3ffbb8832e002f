-- `word::inner::turn::turned` meets its contract: the empty word for an empty range, and else both tiles turned and exchanged.
use mathlib.Core.Path.{sym, ◌∙◌}
use mathlib.Core.Bool.{true≢false}
use Rattle.word.proofs.Turning.{start_there, start_turned_there, end_turned_there, gives_empty, gives_round}
use Rattle.word.proofs.inner.turn.turned.Goals as goal

pub returns-then-is_empty : goal.returns-then-is_empty
returns-then-is_empty c =
    gives_empty _ c.args.f.wide_enough c.requires _ c.start_tile-start.ensures c.end_tile-end.ensures
    (c.is_empty.ensures.0 c.if-is_empty.true) c.joined.ensures

pub turned_tile-requires-2 : goal.turned_tile-requires-2
turned_tile-requires-2 c = start_there _ c.args.f.wide_enough c.requires c.start_tile-start.ensures

pub joined-requires-2 : goal.joined-requires-2
joined-requires-2 c = (
  end_turned_there _ c.args.f.wide_enough c.requires c.end_tile-end.ensures c.turned_tile.ensures,
  start_turned_there _ c.args.f.wide_enough c.requires c.start_tile-start.ensures c.turned_tile-2.ensures,
)

pub returns : goal.returns
returns c =
    gives_round _ c.args.f.wide_enough c.requires _ c.start_tile-start.ensures c.end_tile-end.ensures
    (λ q. true≢false (sym (c.is_empty.ensures.1 q) ∙ c.if-is_empty.false))
    c.turned_tile.ensures c.turned_tile-2.ensures c.joined-2.ensures
