pub mod Fits
pub mod Merged
pub mod Merging
pub mod Sharing
pub mod Tallies
