pub mod Refusal
pub mod Sheet
pub mod Depends
pub mod Exact
pub mod Working
pub mod Accepted
