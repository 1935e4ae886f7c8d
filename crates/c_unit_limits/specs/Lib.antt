pub mod Few
pub mod Literals
