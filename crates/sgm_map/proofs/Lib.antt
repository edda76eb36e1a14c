pub mod Crossing
pub mod Finals
pub mod StripRows
