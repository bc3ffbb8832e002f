-- `signs::inner::parts::results_above` meets its contract: it takes the ends that belong together.
use Rattle.signs.proofs.ReachedCells.{first_above, last_above_says, start_positive, end_positive, first_positive, last_positive}
use Rattle.signs.proofs.inner.parts.results_above.Goals as goal

pub first_cell-requires : goal.first_cell-requires
first_cell-requires g c =
    let n = c.args.f.n in
    let wide = c.args.f.wide_enough in
    let right = c.requires.1 in
    rw (c.start_edge.ensures, c.first_edge.ensures) (
      start_positive n wide (first_above n wide c.requires.0 c.requires.2),
      first_positive n wide g.S.Scaling.divides (first_above n wide right c.requires.3) (last_above_says n wide right c.requires.3),
    )

pub last_cell-requires : goal.last_cell-requires
last_cell-requires g c =
    let n = c.args.f.n in
    let wide = c.args.f.wide_enough in
    let right = c.requires.1 in
    rw (c.end_edge.ensures, c.last_edge.ensures) (
      end_positive n wide (last_above_says n wide c.requires.0 c.requires.2),
      last_positive n wide g.S.Scaling.divides (first_above n wide right c.requires.3) (last_above_says n wide right c.requires.3),
    )
