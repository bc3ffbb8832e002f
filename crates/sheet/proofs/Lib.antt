pub mod Limits
pub mod Chunks
pub mod Steps
pub mod Rows
pub mod ExactRows
pub mod Depends
pub mod SheetVerdict
pub mod SheetTruth
