pub mod Forms
pub mod Lengths
pub mod Level
pub mod Points
pub mod Polynomials
pub mod Quotients
pub mod Turning
