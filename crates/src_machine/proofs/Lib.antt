pub mod Running
pub mod WholeRuns
pub mod Switches
