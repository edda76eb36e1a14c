mod Adding
pub mod Crossing
pub mod CutLemmas
pub mod Entering
pub mod Guides
pub mod Rows
pub mod Sets
pub mod Sums
pub mod Sweep
pub mod Passed
