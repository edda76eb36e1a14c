pub mod Handover
pub mod Events
pub mod Fields
pub mod Machines
