pub mod Plain
pub mod Across
pub mod Spread
pub mod Scaled
