pub mod Digest
pub mod Table
