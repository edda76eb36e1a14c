pub mod FirstFaults
pub mod Given
pub mod Joins
pub mod Reading
pub mod SetBy
pub mod SettingRanges
