pub mod Bounds
pub mod Fives
pub mod Lanes
pub mod Pads
