pub mod Best
pub mod Rows
pub mod Texts
