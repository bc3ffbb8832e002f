-- `word::inner::word::start_tile` meets its contract: a word that fits has a start tile of at most 17 bits.
use Rattle.word.proofs.Tiles.{start_tile_small}
use Rattle.word.proofs.inner.word.start_tile.Goals as goal

pub overflow_cast-result : goal.overflow_cast-result
overflow_cast-result c = record { fits = start_tile_small c.args.f.not_too_wide c.requires c.power.ensures }
