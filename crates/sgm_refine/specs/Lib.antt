pub mod Filling
pub mod Flooding
pub mod Met
pub mod Refined
pub mod Segments
