pub mod Lines
pub mod Cured
pub mod Storing
