pub mod Signs
pub mod OneSign
pub mod Mixed
