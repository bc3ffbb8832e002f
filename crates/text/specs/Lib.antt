pub mod Text
pub mod FileText
pub mod Example
