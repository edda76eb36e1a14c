pub mod Follow
pub mod PathRows
mod Sweeps
mod Appending
mod Pairs
