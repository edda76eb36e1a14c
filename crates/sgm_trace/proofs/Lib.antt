pub mod Bests
pub mod Existing
pub mod Growing
pub mod RayPlaces
pub mod Tracing
