-- `word::inner::span::word_of` meets its contract: no cells give the empty word, and others the tiles of their first and last cell.
use native.Mathlib.Omega.{arith}
use Rattle.posit.proofs.Mirror.{power_wider}
use Rattle.word.proofs.Places.{tiled}
use Rattle.word.proofs.Tiles.{half_large}
use Rattle.word.proofs.inner.span.word_of.Goals as goal

pub joined-requires : goal.joined-requires
joined-requires c = omega (arith, power_wider c.args.f.n, half_large c.args.f.wide_enough)

pub joined-requires-2 : goal.joined-requires-2
joined-requires-2 c = (
  rw c.start_tile_at.ensures (tiled _ c.args.f.wide_enough c.args.s.lo (omega arith)).start_tile_fits,
  rw c.end_tile_at.ensures (tiled _ c.args.f.wide_enough c.args.s.hi (omega arith)).end_tile_fits,
)
