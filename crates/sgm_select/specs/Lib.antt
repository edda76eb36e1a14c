pub mod Keys
pub mod Rows
pub mod Selection
pub mod Strips
