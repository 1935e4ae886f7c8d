pub mod Cured
pub mod Lines
pub mod Starts
pub mod Copies
