pub mod Limits
pub mod Pairs
pub mod Turns
pub mod Plains
pub mod ColumnVerdict
pub mod ColumnTruth
