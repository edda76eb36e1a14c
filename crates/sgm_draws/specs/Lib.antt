pub mod Numbers
pub mod Views
pub mod Rules
pub mod Plays
pub mod Tickets
pub mod Dealt
