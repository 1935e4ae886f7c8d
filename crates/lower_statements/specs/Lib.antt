pub mod Ready
pub mod Switches
