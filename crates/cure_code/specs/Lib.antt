pub mod Settings
pub mod Codes
pub mod Tabled
