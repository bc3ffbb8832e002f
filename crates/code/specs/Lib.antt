pub mod Code
pub mod Coded
pub mod Step
