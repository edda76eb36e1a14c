pub mod Camera
pub mod Laws
pub mod Pose
pub mod Station
