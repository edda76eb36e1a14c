pub mod Dirs
pub mod Pens
pub mod Rays
pub mod Energies
pub mod Rows
pub mod Step
