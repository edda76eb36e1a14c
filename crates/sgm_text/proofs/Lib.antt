pub mod Beginnings
pub mod LineLaws
pub mod WordLaws
