pub mod Figures
pub mod Words
