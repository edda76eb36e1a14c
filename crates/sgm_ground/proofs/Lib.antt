pub mod Grounds
pub mod Places
pub mod Pointing
