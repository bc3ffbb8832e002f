pub mod Refusal
pub mod Column
pub mod Accepted
pub mod Plains
pub mod Taken
