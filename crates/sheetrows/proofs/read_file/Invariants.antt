-- `sheetrows::read_file` meets its contract: no read gives more bytes than are asked, so all that arrived fit.
use Rattle.std.proofs.Common.{◌-◌, ◌≤◌, length}
use Rattle.sheetrows.proofs.read_file.Given as goal

abbrev pub invariant-loop-arrived : goal.invariant-loop-arrived
invariant-loop-arrived l = l.arrived ≤ length l.file

abbrev pub decreases-loop-arrived : goal.decreases-loop-arrived
decreases-loop-arrived l = length l.file - l.arrived
