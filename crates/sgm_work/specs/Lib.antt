pub mod Finished
pub mod Left
pub mod Worked
pub mod Tries
pub mod Crews
pub mod Made
