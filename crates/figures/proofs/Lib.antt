pub mod Claim
pub mod Compared
