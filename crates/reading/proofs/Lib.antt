pub mod FloatOrder
pub mod Readings
pub mod GoingOut
