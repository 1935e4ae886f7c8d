pub mod Numbers
pub mod Commands
pub mod Views
pub mod Passed
pub mod Reads
pub mod Apps
