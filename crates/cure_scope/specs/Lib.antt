pub mod Scopes
pub mod Needs
