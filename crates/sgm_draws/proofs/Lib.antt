pub mod Sums
pub mod Numbers
pub mod Steps
pub mod Seats
pub mod Dealing
pub mod Crossing
pub mod Popping
