pub mod CellFrom
pub mod ZeroCell
pub mod ResultCell
pub mod SumCells
pub mod SumRange
pub mod Difference
pub mod Marks
