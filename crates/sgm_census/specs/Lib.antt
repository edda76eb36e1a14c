pub mod Appending
pub mod Coded
pub mod Codes
pub mod Costs
pub mod Matching
pub mod Packed
pub mod Smoothing
pub mod Windows
