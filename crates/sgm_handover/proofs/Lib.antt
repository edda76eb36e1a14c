pub mod Maps
pub mod Dirs
pub mod Soundness
pub mod Runs
pub mod Order
pub mod Places
