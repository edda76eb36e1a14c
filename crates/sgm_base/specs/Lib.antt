pub mod Columns
pub mod Disparities
pub mod Picture
pub mod Ranges
pub mod Refining
pub mod Rounding
pub mod Sides
pub mod Values
