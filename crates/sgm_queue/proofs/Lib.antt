pub mod Sums
pub mod Rules
pub mod Crossing
