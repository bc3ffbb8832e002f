pub mod Number
pub mod Place
pub mod Verdict
pub mod Operation
pub mod Written
