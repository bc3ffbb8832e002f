pub mod PlainCells
pub mod PlainResults
pub mod Edges
pub mod SumTiles
pub mod AcrossCells
pub mod AcrossResults
pub mod Spreading
pub mod Faults
