pub mod Ranges
pub mod Groups
pub mod Tables
pub mod FlatState
pub mod FlatMachine
pub mod Straight
