pub mod Entries
pub mod Clashes
pub mod Faults
pub mod Lines
pub mod Names
pub mod Reading
