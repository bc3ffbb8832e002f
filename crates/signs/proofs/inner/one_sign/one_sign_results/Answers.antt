-- `signs::inner::one_sign::one_sign_results` meets its contract: the results of the magnitudes, with the sign of both, are all results.
use mathlib.Core.Path.{ap, ap₂, ◌∙◌}
use Rattle.signs.specs.Signs.{positive_some}
use Rattle.signs.specs.OneSign.{with_signs}
use Rattle.signs.proofs.ReachedCells.{some_cells}
use Rattle.signs.proofs.OneSigned.{results_of_magnitudes}
use Rattle.signs.proofs.inner.one_sign.one_sign_results.Goals as goal

pub with_signs-requires : goal.with_signs-requires
with_signs-requires g c =
    (rw c.results_above.ensures (some_cells c.args.f.n c.args.f.wide_enough c.args.f.es g.S.Scaling.divides c.magnitudes.result c.magnitudes-2.result))

pub returns : goal.returns
returns g c =
    c.with_signs.ensures
    ∙ ap (with_signs c.args.f.n c.args.x c.args.y) (c.results_above.ensures ∙ ap₂ (positive_some c.args.f.n c.args.f.es g.S.Scaling.divides) c.magnitudes.ensures c.magnitudes-2.ensures)
    ∙ results_of_magnitudes c.args.f.n c.args.f.wide_enough c.args.f.es c.requires.0 c.requires.1 g.S.Scaling.divides
