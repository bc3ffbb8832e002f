pub mod Operations
pub mod Ends
