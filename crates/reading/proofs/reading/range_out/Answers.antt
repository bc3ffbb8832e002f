-- `reading::reading::range_out` meets its contract: a range without cells is empty, and any other goes out by its two tiles.
use Rattle.posit.proofs.Formats.{within}
use Rattle.reading.proofs.GoingOut.{start_asks, end_asks, empty_out, ends_out}
use Rattle.reading.proofs.reading.range_out.Goals as goal

pub returns-then-cells : goal.returns-then-cells
returns-then-cells c = empty_out (within c.args.f) c.requires c.cells_of-cells.ensures c.if-cells.true

pub end_float-requires : goal.end_float-requires
end_float-requires c =
    start_asks (within c.args.f) c.requires c.start_tile-start.ensures

pub end_float-requires-2 : goal.end_float-requires-2
end_float-requires-2 c =
    end_asks (within c.args.f) c.requires c.end_tile-end.ensures

pub returns : goal.returns
returns c =
    ends_out (within c.args.f) c.requires c.cells_of-cells.ensures c.if-cells.false c.start_tile-start.ensures
    c.end_tile-end.ensures c.end_float.ensures c.end_float-2.ensures
