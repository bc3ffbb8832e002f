-- `word::inner::span::end_cell` meets its contract: it is the definition, from where half a turn brings the tile.
use Rattle.word.proofs.Tiles.{end_cell_is}
use Rattle.word.proofs.inner.span.end_cell.Goals as goal

pub returns : goal.returns
returns c = end_cell_is _ c.args.f.wide_enough c.args.tile c.requires.0 c.requires.1 c.half_turn-last.ensures c.power32-all.ensures
