pub mod HeldLaws
pub mod Whole
pub mod CountLaws
pub mod TripLaws
pub mod FiledLaws
pub mod FillLaws
pub mod Choice
pub mod UnfinishedLaws
