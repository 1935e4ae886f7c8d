pub mod Faults
pub mod Levels
pub mod Lists
pub mod Seen
pub mod Spells
pub mod Tests
pub mod WordRules
pub mod Written
