-- `signs::inner::signs::signed_results` meets its contract: it splits both operands at 0 and puts the results of all signs together.
use Rattle.signs.proofs.ReachedCells.{part_there, mirrored_part_there, either_cells}
use Rattle.signs.proofs.inner.signs.signed_results.Goals as goal

pub either_sign-across-requires : goal.either_sign-across-requires
either_sign-across-requires g c = (
  rw (c.part_above-2.ensures, c.mirror-2.ensures) (mirrored_part_there c.args.f.n c.args.f.wide_enough c.args.a c.requires.0 c.requires.2),
  rw c.part_above-above.ensures (part_there c.args.f.n c.args.f.wide_enough c.args.b c.requires.1 c.requires.3),
  rw (c.part_above-below.ensures, c.mirror.ensures) (mirrored_part_there c.args.f.n c.args.f.wide_enough c.args.b c.requires.1 c.requires.3),
)

pub turned_cells-requires : goal.turned_cells-requires
turned_cells-requires g c =
    (c.args.f.not_too_wide, rw c.either_sign-across.ensures (either_cells c.args.f.n c.args.f.wide_enough c.args.f.es g.S.Scaling.divides c.part_above-2.result c.part_above-above.result c.part_above-below.result))
