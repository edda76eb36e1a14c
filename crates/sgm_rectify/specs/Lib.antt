pub mod Bilinear
pub mod Faults
pub mod Places
pub mod Rectified
pub mod Warps
