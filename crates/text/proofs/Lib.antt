pub mod Decimals
pub mod Glyphs
pub mod RowLines
pub mod FileTexts
pub mod ExampleText
pub mod LongFiles
