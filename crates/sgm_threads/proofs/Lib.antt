pub mod Pieces
pub mod Starts
