-- `signs::inner::mixed::mixed_results` meets its contract: the results start next to 0 on both sides, and end at those of the outermost members.
use Rattle.signs.proofs.ReachedCells.{end_positive, last_positive, last_there}
use Rattle.signs.proofs.Mixed.{lower_above, upper_above, near_above, far_above, mixed_results}
use Rattle.signs.proofs.inner.mixed.mixed_results.Goals as goal

pub last_cell-below-requires : goal.last_cell-below-requires
last_cell-below-requires g c =
    let n = c.args.f.n in
    let wide = c.args.f.wide_enough in
    let right = c.requires.1 in
    rw (c.end_edge.ensures, c.last_edge-last.ensures, c.magnitudes.ensures, c.top_cell.ensures) (
      end_positive n wide (lower_above n wide c.requires.0),
      last_positive n wide g.S.Scaling.divides (near_above n wide c.args.f.es right) (far_above n wide c.args.f.es right),
    )

pub last_cell-above-requires : goal.last_cell-above-requires
last_cell-above-requires g c =
    let n = c.args.f.n in
    let wide = c.args.f.wide_enough in
    let right = c.requires.1 in
    rw (c.end_edge-2.ensures, c.last_edge-last.ensures, c.magnitudes.ensures) (
      end_positive n wide (upper_above n wide c.requires.0),
      last_positive n wide g.S.Scaling.divides (near_above n wide c.args.f.es right) (far_above n wide c.args.f.es right),
    )

pub around-requires : goal.around-requires
around-requires g c =
    let last = last_there c.args.f.n c.args.f.wide_enough c.args.f.es g.S.Scaling.divides in (
      rw c.last_cell-below.ensures (last c.end_edge.result c.last_edge-last.result),
      rw c.last_cell-above.ensures (last c.end_edge-2.result c.last_edge-last.result),
    )

pub returns : goal.returns
returns g c =
    rw (
      c.around.ensures,
      c.last_cell-below.ensures,
      c.last_cell-above.ensures,
      c.end_edge.ensures,
      c.end_edge-2.ensures,
      c.last_edge-last.ensures,
      c.magnitudes.ensures,
      c.top_cell.ensures,
    )
    (mixed_results c.args.f.n c.args.f.wide_enough c.args.f.es c.requires.1 c.requires.0 g.S.Scaling.divides)
