pub mod Bases
pub mod Outlines
pub mod Areas
pub mod Tallies
pub mod Sums
pub mod Table
pub mod Writers
