pub mod Outcome
pub mod Control
pub mod Input
