pub mod Crossing
pub mod Handing
pub mod Working
pub mod Gathering
pub mod Popping
