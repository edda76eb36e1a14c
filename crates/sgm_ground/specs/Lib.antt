pub mod Heights
pub mod Tallying
