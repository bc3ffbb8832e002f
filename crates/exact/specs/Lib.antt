pub mod Whole
pub mod Fraction
