pub mod File
pub mod Accepted
