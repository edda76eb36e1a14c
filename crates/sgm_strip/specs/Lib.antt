pub mod Cuts
pub mod Scenes
pub mod Volumes
pub mod Parcels
pub mod Fronts
pub mod Passing
pub mod Strips
