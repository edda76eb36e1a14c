pub mod Bounds
pub mod Corners
pub mod Means
pub mod Quotients
pub mod Rows
pub mod Suits
pub mod Sums
