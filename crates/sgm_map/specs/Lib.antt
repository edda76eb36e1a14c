pub mod Fining
pub mod Maps
pub mod Selecting
