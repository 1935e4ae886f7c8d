pub mod Cured
pub mod Rows
pub mod Blocks
