-- Products and quotients of two words as one kind of operation, by whether it divides.
use Rattle.std.specs.Prelude.{Bool, true, false, ℕ, ◌/◌, ◌%◌, eqb}
use Rattle.call.specs.Operation.{times, over}
use Rattle.word.specs.Word.{start_tile, end_tile}
use Rattle.signs.specs.declared.inner.edge.Edge.{Edge}
use Rattle.tiles.specs.Plain.{open_zero}

abbrev pub operation_of : Bool → ℕ
operation_of true = over
operation_of false = times

-- the right word's tile at which the results start, and the one at which they end
abbrev pub first_tile : ℕ → Bool → ℕ → ℕ
first_tile n true w = end_tile n w
first_tile n false w = start_tile n w

abbrev pub last_tile : ℕ → Bool → ℕ → ℕ
last_tile n true w = start_tile n w
last_tile n false w = end_tile n w

-- the end that a tile above 0 stands for, be it a start or an end: an open 0 is no limit
abbrev pub edge_at : ℕ → Edge
edge_at t = record { unlimited = eqb t open_zero; closed = eqb (t % 2) 0; posit = t / 2 }
