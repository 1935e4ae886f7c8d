pub mod Causing
pub mod Generated
pub mod Sources
