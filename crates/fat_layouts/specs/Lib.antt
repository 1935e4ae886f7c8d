pub mod Stops
pub mod Standing
