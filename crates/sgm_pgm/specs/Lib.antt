pub mod Fault
pub mod Header
pub mod Parts
pub mod Raster
pub mod Read
pub mod Text
pub mod Write
