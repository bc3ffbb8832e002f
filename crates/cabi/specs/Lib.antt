pub mod Shapes
pub mod Calls
pub mod RangeShapes
pub mod RangeCalls
pub mod SheetShapes
pub mod SheetCalls
pub mod Version
