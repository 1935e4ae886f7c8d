pub mod HomeNames
pub mod Objects
pub mod Telling
