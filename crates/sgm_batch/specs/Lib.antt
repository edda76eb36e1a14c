pub mod Pieces
pub mod Batches
