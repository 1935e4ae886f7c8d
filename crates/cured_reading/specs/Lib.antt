pub mod Parts
pub mod Operations
pub mod Openings
pub mod Heads
pub mod Faults
pub mod Refusals
