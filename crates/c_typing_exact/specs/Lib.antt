pub mod Passing
pub mod Numbered
