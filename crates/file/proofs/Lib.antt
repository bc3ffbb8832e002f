pub mod LowFirst
pub mod Parts
pub mod FileTests
pub mod FileLayout
pub mod FileVerdict
pub mod Numbers
pub mod Marks
