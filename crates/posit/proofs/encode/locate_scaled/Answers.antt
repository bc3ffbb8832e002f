-- `posit::encode::locate_scaled` meets its contract: a scale of either sign goes to `locate` without loss, and what that locates is the number meant.
use Rattle.posit.proofs.ScalePlace.{scaled_down, scaled_up}
use Rattle.posit.proofs.encode.locate_scaled.Goals as goal

pub returns-then-scale-lt0 : goal.returns-then-scale-lt0
returns-then-scale-lt0 c = scaled_down c.args.scale c.ranges.scale c.if-scale-lt0.true c.locate.ensures

pub returns-else-scale-lt0 : goal.returns-else-scale-lt0
returns-else-scale-lt0 c = scaled_up c.args.scale c.ranges.scale c.if-scale-lt0.false c.locate-else-scale-lt0.ensures
