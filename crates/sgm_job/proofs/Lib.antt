pub mod Finals
pub mod Grounds
pub mod Passing
pub mod Surveying
