pub mod Joins
pub mod Found
pub mod ClashLaws
pub mod FaultLaws
pub mod CountLaws
pub mod NamesLaws
