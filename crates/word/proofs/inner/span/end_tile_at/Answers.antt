-- `word::inner::span::end_tile_at` meets its contract: it is the definition; the topmost cell comes out as an open NaR by itself.
use mathlib.Core.Path.{refl, ◌∙◌}
use native.Mathlib.Omega.{arith}
use Rattle.posit.proofs.Mirror.{power_wider}
use Rattle.word.proofs.Tiles.{half_large, end_tile_is}
use Rattle.word.proofs.inner.span.end_tile_at.Goals as goal

pub half_turn-requires : goal.half_turn-requires
half_turn-requires c = omega (arith, power_wider c.args.f.n, half_large c.args.f.wide_enough)

pub returns : goal.returns
returns c =
    let turned = rw (← power_wider c.args.f.n) at (end_tile_is c.args.f.n refl c.args.f.wide_enough c.args.cell) in
    c.half_turn.ensures ∙ turned
